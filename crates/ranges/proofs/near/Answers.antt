-- `ranges::near` meets its contract: what is asked of the ranges that are left is what was asked of all. Assumes nothing.
use Rattle.std.proofs.Common.{sym, refl, ◌∙◌, arith}
use Rattle.ranges.specs.Questions.{near_of}
use Rattle.ranges.proofs.Tests.{and_passed, and_failed}
use Rattle.ranges.proofs.Walk.{walk_begin, walk_here, walk_more, walk_end}
use Rattle.ranges.proofs.near.Goals as goal

pub loop-base-init : goal.loop-base-init
loop-base-init c = walk_begin c.triples-base-items.ensures refl

pub returns-then-not-ends_by : goal.returns-then-not-ends_by
unfolding near_of
returns-then-not-ends_by c =
    and_failed _ (sym c.ends_by.ensures ∙ c.if-not-ends_by.true) ∙ walk_here c.loop-base.invariant (omega arith)

pub loop-base-preserved : goal.loop-base-preserved
unfolding near_of
loop-base-preserved c =
    walk_more c.loop-base.invariant (omega arith) (λ rs e. and_passed _ (sym c.ends_by.ensures ∙ c.if-not-ends_by.false) ∙ e)

pub returns : goal.returns
unfolding near_of
returns c = walk_end c.loop-base.invariant (omega arith)
