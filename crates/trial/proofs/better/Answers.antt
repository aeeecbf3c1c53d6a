-- `trial::better` meets its contract: each arm is a case of the definition. Assumes nothing.
use borrow.Author.Tests.{lt-ltb, le-ltb}
use Rattle.trial.proofs.better.Goals as goal

pub returns-then-error-kept : goal.returns-then-error-kept
returns-then-error-kept c = simp (lt-ltb _ _ c.if-error-kept.true)

pub returns-else-error-kept : goal.returns-else-error-kept
returns-else-error-kept c = simp (le-ltb _ _ c.if-error-kept.false)
