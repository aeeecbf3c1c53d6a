-- `limits::rows_within` meets its contract: each row is tested. Assumes nothing.
use mathlib.Core.Path.{ap}
use mathlib.Core.Bool.{not}
use native.Mathlib.Omega.{arith}
use Rattle.rows.specs.Folds.{row_end}
use Rattle.row_tests.specs.Tests.{pass_begin, pass_more, pass_cut, pass_end}
use Rattle.row_tests.specs.Limits.{rows_within}
use Rattle.row_tests.proofs.limits.rows_within.Goals as goal

pub loop-i-init : goal.loop-i-init
loop-i-init c = pass_begin _ _

pub overflow_mul-i : goal.overflow_mul-i
overflow_mul-i c = omega (arith, row_end c.args.base c.args.w c.loop-i.i c.args.n c.loop-i-test.true)

pub overflow_add-base : goal.overflow_add-base
overflow_add-base c = omega (arith, row_end c.args.base c.args.w c.loop-i.i c.args.n c.loop-i-test.true)

pub row_within-requires : goal.row_within-requires
row_within-requires c = record { table = c.requires.table; w_in_bounds = omega (arith, row_end c.args.base c.args.w c.loop-i.i c.args.n c.loop-i-test.true) }

pub returns-then-not-row_within : goal.returns-then-not-row_within
unfolding rows_within
returns-then-not-row_within c = pass_cut c.loop-i.invariant c.loop-i-test.true c.row_within.ensures (ap not c.if-not-row_within.true)

pub loop-i-preserved : goal.loop-i-preserved
loop-i-preserved c = pass_more c.loop-i.invariant c.loop-i-test.true c.row_within.ensures (ap not c.if-not-row_within.false)

pub returns : goal.returns
unfolding rows_within
returns c = pass_end c.loop-i.invariant (omega arith)
