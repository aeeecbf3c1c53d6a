-- `plan::positive` meets its contract: each way out is a case of the tests. Assumes nothing.
use Rattle.std.proofs.Common.{eq-eqb, ne_eqb}
use Rattle.plan.proofs.rounds.positive.Goals as goal

pub returns-then-x-ne0 : goal.returns-then-x-ne0
returns-then-x-ne0 c = rw (ne_eqb _ 0 c.if-x-ne0.true)

pub returns-else-x-ne0 : goal.returns-else-x-ne0
returns-else-x-ne0 c = rw (eq-eqb _ 0 c.if-x-ne0.false)
