use lib.ListN.{length}
use Rattle.sub_mix.specs.SubMix.{send_buffer}
use Rattle.rows.specs.Loops.{Turning}
use Rattle.sub_mix.proofs.send_buffers.Given as goal

abbrev pub invariant-loop-i : goal.invariant-loop-i
invariant-loop-i l =
    let t = l.mixer in
    Turning (λ _. Unit {0}) (send_buffer (length l.initial.src) t.desk.mixes.words.now t.volumes.now l.m l.to)
    l.i-end l.initial.buffers l.buffers l.i
