-- `whole::lengths_right` meets its contract: each test is one of the definition's. Assumes nothing.
use Rattle.std.proofs.Common.{arith}
use Rattle.std.proofs.lemmas.Grind.{common_steps}
use Rattle.row_tests.specs.Tests.{every}
use Rattle.whole.specs.Whole.{lengths_right}
use Rattle.whole.proofs.lengths_right.Goals as goal

pub returns-then-contexts-at : goal.returns-then-contexts-at
unfolding lengths_right every
returns-then-contexts-at c = grind (arith, common_steps)

pub returns-else-contexts-at : goal.returns-else-contexts-at
unfolding lengths_right every
returns-else-contexts-at c = grind (arith, common_steps)
