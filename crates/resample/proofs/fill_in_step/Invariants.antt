use Rattle.resample.proofs.Filling.{Filling}
use Rattle.resample.proofs.fill_in_step.Given as goal

abbrev pub invariant-loop-k : goal.invariant-loop-k
invariant-loop-k l = Filling l.input l.ratio l.fraction l.count l.initial.out l.out l.k
