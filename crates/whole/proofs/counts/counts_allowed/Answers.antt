-- `counts::counts_allowed` meets its contract: each test is one of the definition's. Assumes nothing.
use Rattle.std.proofs.Common.{arith}
use Rattle.std.proofs.lemmas.Grind.{common_steps}
use Rattle.row_tests.specs.Tests.{every}
use Rattle.whole.specs.Counts.{counts_allowed}
use Rattle.whole.proofs.counts.counts_allowed.Goals as goal

pub returns-then-p-le32 : goal.returns-then-p-le32
unfolding counts_allowed every
returns-then-p-le32 c = grind (arith, common_steps)

pub returns-else-p-le32 : goal.returns-else-p-le32
unfolding counts_allowed every
returns-else-p-le32 c = grind (arith, common_steps)
