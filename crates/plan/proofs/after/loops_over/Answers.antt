-- `plan::loops_over` meets its contract: each way out is a case of the tests. Assumes nothing.
use Rattle.std.proofs.Common.{le-ltb, lt-ltb, eq-eqb, ne_eqb}
use Rattle.plan.specs.Rounds.{loops_over}
use Rattle.plan.proofs.after.loops_over.Goals as goal

pub returns-then-not-buffers_v2 : goal.returns-then-not-buffers_v2
unfolding loops_over
returns-then-not-buffers_v2 c = simp c.if-not-buffers_v2.true

pub returns-then-limit-ge2147483648 : goal.returns-then-limit-ge2147483648
unfolding loops_over
returns-then-limit-ge2147483648 c = simp (c.if-not-buffers_v2.false, le-ltb _ _ c.if-limit-ge2147483648.true)

pub returns-then-got-eq0 : goal.returns-then-got-eq0
unfolding loops_over
returns-then-got-eq0 c = simp (c.if-not-buffers_v2.false, lt-ltb _ _ c.if-limit-ge2147483648.false, eq-eqb _ _ c.if-got-eq0.true)

pub returns-then-loops-ge2147483648 : goal.returns-then-loops-ge2147483648
unfolding loops_over
returns-then-loops-ge2147483648 c =
    simp (c.if-not-buffers_v2.false, lt-ltb _ _ c.if-limit-ge2147483648.false, ne_eqb _ _ c.if-got-eq0.false, le-ltb _ _ c.if-loops-ge2147483648.true)

pub returns : goal.returns
unfolding loops_over
returns c =
    simp (c.if-not-buffers_v2.false, lt-ltb _ _ c.if-limit-ge2147483648.false, ne_eqb _ _ c.if-got-eq0.false, lt-ltb _ _ c.if-loops-ge2147483648.false)
