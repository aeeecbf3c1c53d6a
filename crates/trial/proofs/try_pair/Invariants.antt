use Rattle.trial.proofs.Trying.{Trying}
use Rattle.trial.proofs.try_pair.Given as goal

abbrev pub invariant-loop-x : goal.invariant-loop-x
invariant-loop-x l =
    Trying l.s l.c l.d l.samples l.h0 l.h1 l.a l.b l.sum l.x-index
