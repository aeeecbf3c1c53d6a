-- `desk::lists_whole` meets its contract: the splitters' rows, then the destinations'. Assumes nothing.
use Rattle.std.proofs.Common.{arith}
use Rattle.std.proofs.lemmas.Grind.{common_steps}
use Rattle.row_tests.specs.Limits.{first_table}
use Rattle.row_tests.specs.Desk.{lists_whole}
use Rattle.row_tests.proofs.desk.lists_whole.Goals as goal

pub rows_within-requires : goal.rows_within-requires
rows_within-requires c = record { table = first_table _ _ (omega arith); w_in_bounds = omega arith }

pub rows_within-requires-then-rows_within : goal.rows_within-requires-then-rows_within
rows_within-requires-then-rows_within c = record { table = first_table _ _ (omega arith); w_in_bounds = omega arith }

pub returns-then-rows_within : goal.returns-then-rows_within
unfolding lists_whole
returns-then-rows_within c = grind (arith, common_steps)

pub returns-else-rows_within : goal.returns-else-rows_within
unfolding lists_whole
returns-else-rows_within c = grind (arith, common_steps)
