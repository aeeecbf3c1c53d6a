-- `nearest::lowest_alike` meets its contract: each arm is a case of the definition. Assumes nothing.
use mathlib.Core.Path.{refl}
use borrow.Author.Tests.{eq-eqb, ne_eqb}
use native.Mathlib.Omega.{arith}
use Rattle.nearest.proofs.lowest_alike.Goals as goal

pub returns-then-y-eq0 : goal.returns-then-y-eq0
returns-then-y-eq0 c = (simp (eq-eqb c.args.y 0 (omega arith)), refl)

pub returns-else-y-eq0 : goal.returns-else-y-eq0
returns-else-y-eq0 c = (simp (ne_eqb c.args.y 0 (λ z. omega arith)), refl)
