-- `ranges::readable` meets its contract: the ranges that are left give what is left just where all give the whole. Assumes nothing.
use Rattle.std.proofs.Common.{◌≡◌, ℕ, Bool, List, map, drop, eqb, sym, refl, ap, ◌∙◌, arith, eq-eqb}
use Rattle.ranges.specs.Ranges.{range_from, left_of, readable_of}
use Rattle.ranges.proofs.Laws.{readable_more, readable_none}
use Rattle.ranges.proofs.Walk.{Walk, walk_begin, walk_more, walk_end}
use Rattle.ranges.proofs.readable.Goals as goal
use Rattle.ranges.proofs.readable.Goals.{else-loop-base-test, then-loop-base-test+then-left-eq0}

-- nothing is left of the read, so whatever ranges come give it
ended : (at left : ℕ) {ts : List (List ℕ)} {i : ℕ} {whole : Bool} → left ≡ 0 → Walk (λ rs. readable_of rs at left ≡ whole) ts i
    → eqb left 0 ≡ whole
ended at left {ts} {i} z walk =
    let rs = map range_from (drop i ts) in
    eq-eqb left 0 z ∙ sym (readable_none rs at) ∙ ap (readable_of rs at) (sym z) ∙ walk.rest

pub loop-base-init : goal.loop-base-init
loop-base-init c = walk_begin c.triples-base-items.ensures refl

pub loop-base-preserved : goal.loop-base-preserved
loop-base-preserved c =
    walk_more c.loop-base.invariant (omega arith) (λ rs e. readable_more _ rs _ _ c.pass-r.ensures.0 c.pass-r.ensures.1 ∙ e)

pub returns : goal.returns
unfolding readable_of left_of
returns c =
    elim c.loop-base-test.branch [
      | else-loop-base-test w ↦ walk_end c.loop-base.invariant (omega arith)
      | then-loop-base-test+then-left-eq0 w ↦ ended c.loop-base.at c.loop-base.left w.if-left-eq0.true c.loop-base.invariant
    ]
