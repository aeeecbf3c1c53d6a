use lib.Ieee.{binary32, mul}
use Rattle.mixing.proofs.Scaling.{Scaling}
use Rattle.mixing.proofs.scale.Given as goal

abbrev pub invariant-loop-x : goal.invariant-loop-x
invariant-loop-x l = Scaling (λ x. mul binary32 x l.v) l.initial.s l.s l.x-index
