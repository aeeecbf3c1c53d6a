use Rattle.trial.specs.Trial.{error_of}
use Rattle.trial.proofs.Keeping.{Keeping}
use Rattle.trial.proofs.keep_header.Given as goal

abbrev pub invariant-loop-b : goal.invariant-loop-b
invariant-loop-b l =
    Keeping (error_of l.coefficients l.samples l.h0 l.h1) l.above l.kept l.b
