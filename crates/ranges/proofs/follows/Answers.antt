-- `ranges::follows` meets its contract, test by test. Assumes nothing.
use Rattle.std.proofs.Common.{sym, ◌∙◌}
use Rattle.ranges.specs.Questions.{follows}
use Rattle.ranges.proofs.Tests.{and_passed, and_failed}
use Rattle.ranges.proofs.follows.Goals as goal

pub returns-then-ends_by : goal.returns-then-ends_by
unfolding follows
returns-then-ends_by c = c.ends_by-then-ends_by.ensures ∙ and_passed _ (sym c.ends_by.ensures ∙ c.if-ends_by.true)

pub returns-else-ends_by : goal.returns-else-ends_by
unfolding follows
returns-else-ends_by c = c.if-ends_by.false ∙ and_failed _ (sym c.ends_by.ensures ∙ c.if-ends_by.false)
