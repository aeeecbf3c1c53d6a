-- `plan::in_loop` meets its contract: each way out is a case of the tests. Assumes nothing.
use Rattle.std.proofs.Common.{sym, eq-eqb, ne_eqb}
use Rattle.plan.specs.Rounds.{in_loop}
use Rattle.plan.proofs.rounds.in_loop.Goals as goal

pub returns-then-not-buffers_v2 : goal.returns-then-not-buffers_v2
unfolding in_loop
returns-then-not-buffers_v2 c = simp c.if-not-buffers_v2.true

pub returns-then-not-positive : goal.returns-then-not-positive
unfolding in_loop
returns-then-not-positive c = simp (c.if-not-buffers_v2.false, sym c.positive.ensures, c.if-not-positive.true)

pub returns-then-wb-eq0 : goal.returns-then-wb-eq0
unfolding in_loop
returns-then-wb-eq0 c =
    simp (c.if-not-buffers_v2.false, sym c.positive.ensures, c.if-not-positive.false, eq-eqb _ _ c.if-wb-eq0.true)

pub returns-then-wb-eq0-2 : goal.returns-then-wb-eq0-2
unfolding in_loop
returns-then-wb-eq0-2 c =
    simp (c.if-not-buffers_v2.false, sym c.positive.ensures, c.if-not-positive.false, ne_eqb _ _ c.if-wb-eq0.false, eq-eqb _ _ c.if-wb-eq0-2.true)

pub returns : goal.returns
unfolding in_loop
returns c =
    simp (c.if-not-buffers_v2.false, sym c.positive.ensures, c.if-not-positive.false, ne_eqb _ _ c.if-wb-eq0.false, ne_eqb _ _ c.if-wb-eq0-2.false)
