-- What ranges leave of a read, and whether it succeeds. Assumes nothing.
use Rattle.std.proofs.Common.{◌≡◌, ℕ, ◌+◌, ◌-◌, ◌%◌, ◌^◌, ◌≤◌, true, false, eqb, List, [], ◌∷◌, refl, ap, ◌∙◌, ⊎_elim, arith, eq-eqb}
use native.Mathlib.Nat.{zero-sub}
use Rattle.ranges.specs.Ranges.{Range, holds, room_of, has, room_in, end_of, next_at, next_left, left_of, readable_of}
use Rattle.ranges.proofs.Tests.{true_or_false}

-- ---- what one range leaves: nothing is taken where it does not have the place

module _ (base size at : ℕ) where
  pub at_held : holds base size at ≡ true → next_at base size at ≡ (base + size) % 2 ^ 64
  unfolding next_at
  at_held h = rw h

  pub at_kept : holds base size at ≡ false → next_at base size at ≡ at
  unfolding next_at
  at_kept h = rw h

  pub left_held : (left : ℕ) → holds base size at ≡ true → next_left base size at left ≡ left - room_of base size at
  unfolding next_left
  left_held left h = rw h

  pub left_kept : (left : ℕ) → holds base size at ≡ false → next_left base size at left ≡ left
  unfolding next_left
  left_kept left h = rw h

  pub left_zero : next_left base size at 0 ≡ 0
  left_zero = ⊎_elim (λ t. left_held 0 t ∙ zero-sub (room_of base size at)) (left_kept 0) (true_or_false (holds base size at))

-- ---- what a range and those after it leave

module _ (r : Range) (rs : List Range) (at left : ℕ) where
  -- a read goes on at the end of a range that it leaves
  pub left_here : end_of r ≤ 2 ^ 63 → has r at ≡ true → left_of (r ∷ rs) at left ≡ left_of rs (end_of r) (left - room_in r at)
  unfolding left_of
  left_here near t =
      let round : end_of r % 2 ^ 64 ≡ end_of r = omega arith in
      λ i. left_of rs ((at_held r.base r.size at t ∙ round) i) (left_held r.base r.size at left t i)

  pub left_there : has r at ≡ false → left_of (r ∷ rs) at left ≡ left_of rs at left
  unfolding left_of
  left_there t = λ i. left_of rs (at_kept r.base r.size at t i) (left_kept r.base r.size at left t i)

  pub readable_more : {at' left' : ℕ} → at' ≡ next_at r.base r.size at → left' ≡ next_left r.base r.size at left
      → readable_of rs at' left' ≡ readable_of (r ∷ rs) at left
  unfolding readable_of left_of
  readable_more ea el = λ i. eqb (left_of rs (ea i) (el i)) 0

-- ---- a read of no byte: nothing is left of nothing, so it succeeds

pub left_none : (rs : List Range) (at : ℕ) → left_of rs at 0 ≡ 0
unfolding left_of
left_none [] at = refl
left_none (r ∷ rs) at =
    let next = next_at r.base r.size at in
    ap (left_of rs next) (left_zero r.base r.size at) ∙ left_none rs next

pub readable_none : (rs : List Range) (addr : ℕ) → readable_of rs addr 0 ≡ true
unfolding readable_of
readable_none rs addr = eq-eqb (left_of rs addr 0) 0 (left_none rs addr)
