use Rattle.session.specs.Digits.{Spelling}
use Rattle.session.proofs.digits.put_digits.Given as goal

abbrev pub invariant-loop-i : goal.invariant-loop-i
invariant-loop-i l = Spelling l.initial.out l.at l.base l.k l.v l.out l.i l.rest
