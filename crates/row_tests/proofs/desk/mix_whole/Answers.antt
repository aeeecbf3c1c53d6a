-- `desk::mix_whole` meets its contract: each test is one of the definition's. Assumes nothing.
use Rattle.std.proofs.Common.{arith}
use Rattle.std.proofs.lemmas.Grind.{common_steps}
use Rattle.row_tests.specs.Tests.{every}
use Rattle.row_tests.specs.Desk.{mix_whole, mix_table}
use Rattle.row_tests.proofs.desk.mix_whole.Goals as goal

pub row_within-requires : goal.row_within-requires
row_within-requires c = record { table = mix_table; w_in_bounds = omega arith }

pub returns-then-row_within : goal.returns-then-row_within
unfolding mix_whole every
returns-then-row_within c = grind (arith, common_steps)

pub returns-else-row_within : goal.returns-else-row_within
unfolding mix_whole every
returns-else-row_within c = grind (arith, common_steps)
