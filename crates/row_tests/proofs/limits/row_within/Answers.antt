-- `limits::row_within` meets its contract: what is left of the table decides. Assumes nothing.
use Rattle.std.proofs.Common.{arith}
use Rattle.row_tests.specs.Pairs.{pair_inside, pair_more, pair_cut, pair_end}
use Rattle.row_tests.proofs.limits.row_within.Goals as goal

pub overflow_add-at : goal.overflow_add-at
overflow_add-at c = omega (arith, pair_inside c.args.limits.now c.requires.table c.loop-field.field-index c.loop-field-test.true)

pub offset_bounds-s-at : goal.offset_bounds-s-at
offset_bounds-s-at c = omega (arith, pair_inside c.args.limits.now c.requires.table c.loop-field.field-index c.loop-field-test.true)

pub bounds-s-at : goal.bounds-s-at
bounds-s-at c = omega (arith, pair_inside c.args.limits.now c.requires.table c.loop-field.field-index c.loop-field-test.true)

pub returns-then-most-s : goal.returns-then-most-s
returns-then-most-s c = pair_cut c.args.limits.now c.loop-field.invariant c.loop-field-test.true c.if-most-s.true

pub loop-field-preserved : goal.loop-field-preserved
loop-field-preserved c = pair_more c.args.limits.now c.loop-field.invariant c.loop-field-test.true c.if-most-s.false

pub returns : goal.returns
returns c = pair_end c.args.limits.now c.loop-field.invariant c.loop-field-test.false
