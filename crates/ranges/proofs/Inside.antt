-- What a read means, address by address, where the ranges ascend: it succeeds just where each of its addresses lies in a range.
-- Assumes nothing.
use Rattle.std.proofs.Common.{◌≡◌, ℕ, ◌+◌, ◌-◌, ◌<◌, ◌≤◌, true, false, cond, List, ◌∷◌, sym, refl, ap, ◌∙◌, ⊎_elim, true≢false, eq-zero-or-pos, arith}
use Rattle.ranges.specs.Ranges.{Range, has, room_in, end_of, left_of, inside_of}
use Rattle.ranges.specs.Ascending.{Ascending, none, more}
use Rattle.ranges.proofs.Tests.{true_or_false, lt_or_le}
use Rattle.ranges.proofs.Holds.{holds_inside, holds_below, holds_past, held_where}
use Rattle.ranges.proofs.Laws.{left_here, left_there, left_none}

-- ---- an address in the first range, or in those after it

module _ (r : Range) (rs : List Range) (x : ℕ) where
  inside_here : has r x ≡ true → inside_of (r ∷ rs) x ≡ true
  unfolding inside_of
  inside_here t = λ i. cond (t i) true (inside_of rs x)

  inside_there : has r x ≡ false → inside_of (r ∷ rs) x ≡ inside_of rs x
  unfolding inside_of
  inside_there t = λ i. cond (t i) true (inside_of rs x)

  inside_past : end_of r ≤ x → inside_of (r ∷ rs) x ≡ inside_of rs x
  inside_past h = inside_there (holds_past r.base r.size x (omega arith) (omega arith))

-- ---- below the first range there is nothing

below_inside : {n e : ℕ} {rs : List Range} → Ascending n e rs → (x : ℕ) → x < e → inside_of rs x ≡ false
unfolding inside_of
below_inside none x h = refl
below_inside (more {r = r} {rs = rs} a p q s) x h =
    inside_there r rs x (holds_below r.base r.size x (omega arith)) ∙ below_inside s x (omega arith)

below_left : {n e : ℕ} {rs : List Range} → Ascending n e rs → (at left : ℕ) → at < e → left_of rs at left ≡ left
unfolding left_of
below_left none at left h = refl
below_left (more {r = r} {rs = rs} a p q s) at left h =
    left_there r rs at left (holds_below r.base r.size at (omega arith)) ∙ below_left s at left (omega arith)

-- a read of at least one byte that ranges give begins at or after the address that they begin from
pub begins_above : {n e : ℕ} {rs : List Range} → Ascending n e rs → (at left : ℕ) → 0 < left → left_of rs at left ≡ 0 → e ≤ at
begins_above {e = e} s at left h z =
    ⊎_elim (λ (l : at < e). absurd (omega (arith, below_left s at left l))) (λ (g : e ≤ at). g) (lt_or_le at e)

-- ---- a read that succeeds: each of its addresses lies in a range

pub read_inside : {n e : ℕ} {rs : List Range} → Ascending n e rs → (at left : ℕ) → left_of rs at left ≡ 0
    → (x : ℕ) → at ≤ x → x < at + left → inside_of rs x ≡ true
unfolding left_of
read_inside none at left h x lo hi = absurd (omega arith)
read_inside (more {r = r} {rs = rs} a p q s) at left h x lo hi =
    ⊎_elim
    (λ (t : has r at ≡ true).
    let w = held_where r.base r.size at t in
    let z = sym (left_here r rs at left q t) ∙ h in
    ⊎_elim (λ (l : x < end_of r). inside_here r rs x (holds_inside r.base r.size x (omega arith) (omega arith)))
    (λ (g : end_of r ≤ x). inside_past r rs x g ∙ read_inside s (end_of r) (left - room_in r at) z x g (omega arith))
    (lt_or_le x (end_of r)))
    (λ (t : has r at ≡ false).
    let z = sym (left_there r rs at left t) ∙ h in
    let g = begins_above s at left (omega arith) z in
    inside_past r rs x (omega arith) ∙ read_inside s at left z x lo hi)
    (true_or_false (has r at))

-- ---- and the other way: where each address lies in a range, the read succeeds

pub read_complete : {n e : ℕ} {rs : List Range} → Ascending n e rs → (at left : ℕ)
    → ((x : ℕ) → at ≤ x → x < at + left → inside_of rs x ≡ true) → left_of rs at left ≡ 0
unfolding left_of inside_of
read_complete none at left f =
    ⊎_elim (λ (z : left ≡ 0). z) (λ (o : 0 < left). absurd (true≢false (sym (f at (omega arith) (omega arith))))) (eq-zero-or-pos left)
read_complete (more {r = r} {rs = rs} a p q s) at left f =
    let later : (x : ℕ) → end_of r ≤ x → at ≤ x → x < at + left → inside_of rs x ≡ true =
    λ x g lo hi. sym (inside_past r rs x g) ∙ f x lo hi in
    ⊎_elim
    (λ (t : has r at ≡ true).
    let w = held_where r.base r.size at t in
    left_here r rs at left q t
    ∙ read_complete s (end_of r) (left - room_in r at) (λ x lo hi. later x lo (omega arith) (omega arith)))
    (λ (t : has r at ≡ false).
    left_there r rs at left t
    ∙ ⊎_elim (λ (z : left ≡ 0). ap (left_of rs at) z ∙ left_none rs at)
    (λ (o : 0 < left). ⊎_elim
    (λ (l : at < end_of r). absurd (true≢false (sym (f at (omega arith) (omega arith)) ∙ inside_there r rs at t ∙ below_inside s at l)))
    (λ (g : end_of r ≤ at). read_complete s at left (λ x lo hi. later x (omega arith) lo hi))
    (lt_or_le at (end_of r)))
    (eq-zero-or-pos left))
    (true_or_false (has r at))

-- ---- a read cut in two

module _ {n e : ℕ} {rs : List Range} (s : Ascending n e rs) (at a b : ℕ) (h : left_of rs at (a + b) ≡ 0) where
  pub cut_first : left_of rs at a ≡ 0
  cut_first = read_complete s at a (λ x lo hi. read_inside s at (a + b) h x lo (omega arith))

  pub cut_second : left_of rs (at + a) b ≡ 0
  cut_second = read_complete s (at + a) b (λ x lo hi. read_inside s at (a + b) h x (omega arith) (omega arith))
