use Rattle.std.proofs.Common.{length}
use Rattle.gain.specs.Gain.{ramped}
use Rattle.gain.proofs.Doing.{Doing}
use Rattle.gain.proofs.ramp_by.Given as goal

abbrev pub invariant-loop-x : goal.invariant-loop-x
invariant-loop-x l = Doing (ramped l.step l.v) (length l.initial.s) (ramped l.step l.from l.initial.s) l.s l.x-index
