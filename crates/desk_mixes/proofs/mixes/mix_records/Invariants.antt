use Rattle.rows.specs.Loops.{Turning}
use Rattle.desk_mixes.specs.Mixes.{mix_rows, mix_step}
use Rattle.desk_mixes.specs.MixLaws.{Sized}
use Rattle.desk_mixes.proofs.mixes.mix_records.Given as goal

abbrev pub invariant-loop-i : goal.invariant-loop-i
invariant-loop-i l =
    Turning (Sized l.n) (mix_step l.dirty l.d l.n) l.i-end (mix_rows l.initial.words l.initial.floats) (mix_rows l.words l.floats) l.i
