-- `plan::span_over` meets its contract: each way out is a case of the tests. Assumes nothing.
use Rattle.std.proofs.Common.{le-leb}
use borrow.Author.Tests.{lt-leb}
use Rattle.plan.specs.Rounds.{span_over}
use Rattle.plan.proofs.after.span_over.Goals as goal

pub returns-then-total-offset : goal.returns-then-total-offset
unfolding span_over
returns-then-total-offset c = simp (le-leb _ _ c.if-total-offset.true)

pub returns-else-total-offset : goal.returns-else-total-offset
unfolding span_over
returns-else-total-offset c = simp (lt-leb _ _ c.if-total-offset.false)
