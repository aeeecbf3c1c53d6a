-- `desk::sinks_whole` meets its contract: it is one test of all rows. Assumes nothing.
use native.Mathlib.Omega.{arith}
use Rattle.row_tests.specs.Desk.{sinks_whole, sink_table}
use Rattle.row_tests.proofs.desk.sinks_whole.Goals as goal

pub rows_within-requires : goal.rows_within-requires
rows_within-requires c = record { table = sink_table; w_in_bounds = omega arith }

pub returns : goal.returns
unfolding sinks_whole
returns c = c.rows_within.ensures
