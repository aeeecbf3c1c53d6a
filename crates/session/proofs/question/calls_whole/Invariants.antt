use Prim.Native.Nat.{◌-◌}
use Rattle.session.specs.Calls.{Walking}
use Rattle.session.proofs.question.calls_whole.Given as goal

abbrev pub invariant-loop : goal.invariant-loop
invariant-loop l = Walking l.d l.n l.at (l.n - l.counter)
