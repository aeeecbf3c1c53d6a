use Rattle.sends.specs.Sends.{Spreading, gain_at}
use Rattle.sends.proofs.send_moving.Given as goal

abbrev pub invariant-loop-j : goal.invariant-loop-j
invariant-loop-j l = Spreading (gain_at l.from) (gain_at l.to) l.offset l.n l.src l.count l.initial.buffers l.buffers l.j
