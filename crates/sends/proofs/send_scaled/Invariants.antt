use Rattle.sends.specs.Sends.{Spreading, scaled_at}
use Rattle.sends.proofs.send_scaled.Given as goal

abbrev pub invariant-loop-j : goal.invariant-loop-j
invariant-loop-j l = Spreading (scaled_at l.volume l.volumes) (scaled_at l.volume l.volumes) l.offset l.n l.src l.count l.initial.buffers l.buffers l.j
