-- `ranges::stretch_at` meets its contract: the stretch in the ranges that are left is that in all. Assumes nothing.
use Rattle.std.proofs.Common.{◌≡◌, ℕ, ◌+◌, ◌-◌, ◌%◌, ◌^◌, true, false, Some, List, [], ◌∷◌, get_or, sym, refl, ap, ◌∙◌, arith}
use Rattle.ranges.specs.Ranges.{Range, range_from, has, room_in}
use Rattle.ranges.specs.Stretch.{stretch, stretch_of}
use Rattle.ranges.proofs.Holds.{holds_inside, holds_below, holds_past}
use Rattle.ranges.proofs.Stretches.{stretch_here, stretch_there}
use Rattle.ranges.proofs.Walk.{walk_begin, walk_here, walk_more, walk_end}
use Rattle.ranges.proofs.stretch_at.Goals as goal
use Rattle.ranges.proofs.stretch_at.Goals.{else-base-addr-via-then-base-addr+else-addr-base, else-base-addr-via-else-base-addr}

-- what is made where a range has the address
made : (r : Range) (rs : List Range) (x : ℕ) {at : ℕ} → at ≡ (r.start + (x - r.base)) % 2 ^ 64 → has r x ≡ true
    → Some (stretch at (room_in r x)) ≡ stretch_of (r ∷ rs) x
made r rs x e t = ap (λ (at : ℕ). Some (stretch at (room_in r x))) e ∙ sym (stretch_here r rs x t)

pub loop-base-init : goal.loop-base-init
loop-base-init c = walk_begin c.triples-base-items.ensures refl

pub returns-then-addr-base : goal.returns-then-addr-base
returns-then-addr-base c =
    let here = walk_here c.loop-base.invariant (omega arith) in
    made _ _ _ refl (holds_inside _ _ _ c.if-base-addr.true c.if-addr-base.true) ∙ here

pub loop-base-preserved : goal.loop-base-preserved
loop-base-preserved c =
    let over : has (range_from (get_or c.triples-base-items.result.now c.loop-base.base-index [])) c.args.addr ≡ false =
    elim c.else-base-addr.branch [
      | else-base-addr-via-then-base-addr+else-addr-base w ↦ holds_past _ _ _ (omega arith) (omega arith)
      | else-base-addr-via-else-base-addr w ↦ holds_below _ _ _ (omega arith)
    ] in
    walk_more c.loop-base.invariant (omega arith) (λ rs e. sym (stretch_there _ rs _ over) ∙ e)

pub returns : goal.returns
unfolding stretch_of
returns c = walk_end c.loop-base.invariant (omega arith)
