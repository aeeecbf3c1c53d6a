use mathlib.Core.Path.{◌≡◌}
use mathlib.Core.List.{List}
use lib.ListN.{length}
use lib.Ieee.{Float}
use Rattle.voice_sends.specs.Sending.{ramped_row}
use Rattle.rows.specs.Loops.{Turning}
use Rattle.voice_sends.proofs.ramps.ramp_rows.Given as goal

abbrev pub invariant-loop-c : goal.invariant-loop-c
invariant-loop-c l = Turning (λ (x : List Float). length x ≡ length l.initial.out) (ramped_row l.from l.to l.n) l.channels l.initial.out l.out l.c
