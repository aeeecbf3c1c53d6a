-- `counts::samples_allowed` meets its contract: the range has both tests of the definition. Assumes nothing.
use Rattle.std.proofs.Common.{arith}
use Rattle.std.proofs.lemmas.Grind.{common_steps}
use Rattle.row_tests.specs.Tests.{every}
use Rattle.whole.specs.Counts.{samples_allowed}
use Rattle.whole.proofs.counts.samples_allowed.Goals as goal

pub returns : goal.returns
unfolding samples_allowed every
returns c = grind (arith, common_steps)
