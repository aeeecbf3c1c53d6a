-- What ranges give of a read, piece by piece, and how many bytes they give. Assumes nothing.
use Prim.Native.Nat.{ℕ, ◌+◌, ◌-◌, ◌%◌, ◌^◌, ◌≤◌, min}
use native.Mathlib.Nat.{zero-min}
use native.Mathlib.Omega.{arith}
use mathlib.Core.Bool.{true, false, cond}
use mathlib.Core.Logic.{⊎_elim}
use mathlib.Core.List.{List, [], ◌∷◌, ◌++◌}
use mathlib.Core.Path.{◌≡◌, refl, ap, ◌∙◌}
use borrow.Author.Tests.{eq-eqb}
use lib.ListN.{length, take, drop, length-append, length-drop}
use lib.Seq.{length-take-le}
use Rattle.ranges.specs.Ranges.{Range, has, room_in, end_of, next_at, next_left, left_of, readable_of}
use Rattle.ranges.specs.Ascending.{Ascending, none, more}
use Rattle.ranges.proofs.Tests.{true_or_false}
use Rattle.ranges.proofs.Holds.{held_where}
use Rattle.ranges.proofs.Laws.{at_held, at_kept, left_held, left_kept, left_zero}
use Rattle.memory.specs.Memory.{piece_of, bytes_of, read_of}

-- ---- what one range gives

module _ (r : Range) (m : List ℕ) (at left : ℕ) where
  pub piece_here : has r at ≡ true → piece_of r m at left ≡ take (min left (room_in r at)) (drop (r.start + (at - r.base)) m)
  unfolding piece_of
  piece_here t = rw t

  pub piece_there : has r at ≡ false → piece_of r m at left ≡ []
  unfolding piece_of
  piece_there t = rw t

  module _ (part : r.start + r.size ≤ length m) where
    -- how many bytes, where it has the place
    pub piece_wide : has r at ≡ true → length (piece_of r m at left) ≡ min left (room_in r at)
    piece_wide t =
        let w = held_where r.base r.size at t in
        ap length (piece_here t)
        ∙ length-take-le (min left (room_in r at)) (drop (r.start + (at - r.base)) m) (rw length-drop (omega arith))

    -- what it gives and what it leaves are what there was
    pub piece_long : length (piece_of r m at left) + next_left r.base r.size at left ≡ left
    piece_long =
        ⊎_elim (λ (t : has r at ≡ true). omega (arith, piece_wide t, left_held r.base r.size at left t))
        (λ (t : has r at ≡ false). omega (arith, ap length (piece_there t), left_kept r.base r.size at left t))
        (true_or_false (has r at))

piece_none : (r : Range) (m : List ℕ) (at : ℕ) → piece_of r m at 0 ≡ []
piece_none r m at =
    ⊎_elim
    (λ (t : has r at ≡ true).
    piece_here r m at 0 t ∙ ap (λ (n : ℕ). take n (drop (r.start + (at - r.base)) m)) (zero-min (room_in r at)))
    (piece_there r m at 0)
    (true_or_false (has r at))

-- ---- what a range and those after it give

module _ (r : Range) (rs : List Range) (m : List ℕ) (at left : ℕ) where
  pub bytes_here : end_of r ≤ 2 ^ 63 → has r at ≡ true
      → bytes_of (r ∷ rs) m at left ≡ piece_of r m at left ++ bytes_of rs m (end_of r) (left - room_in r at)
  unfolding bytes_of
  bytes_here near t =
      let round : (r.base + r.size) % 2 ^ 64 ≡ end_of r = omega arith in
      λ i. piece_of r m at left ++ bytes_of rs m ((at_held r.base r.size at t ∙ round) i) (left_held r.base r.size at left t i)

  pub bytes_there : has r at ≡ false → bytes_of (r ∷ rs) m at left ≡ bytes_of rs m at left
  unfolding bytes_of
  bytes_there t =
      λ i. piece_there r m at left t i ++ bytes_of rs m (at_kept r.base r.size at t i) (left_kept r.base r.size at left t i)

pub bytes_none : (rs : List Range) (m : List ℕ) (at : ℕ) → bytes_of rs m at 0 ≡ []
unfolding bytes_of
bytes_none [] m at = refl
bytes_none (r ∷ rs) m at =
    let next = next_at r.base r.size at in
    (λ i. piece_none r m at i ++ bytes_of rs m next (left_zero r.base r.size at i)) ∙ bytes_none rs m next

-- ---- how many bytes

-- what ranges give and what they leave are what was asked for
bytes_long : (m : List ℕ) {e : ℕ} {rs : List Range} → Ascending (length m) e rs → (at left : ℕ)
    → length (bytes_of rs m at left) + left_of rs at left ≡ left
unfolding bytes_of left_of
bytes_long m none at left = omega arith
bytes_long m (more {r = r} {rs = rs} a p q s) at left =
    let here = piece_long r m at left p in
    let later = bytes_long m s (next_at r.base r.size at) (next_left r.base r.size at left) in
    simp length-append (omega arith)

pub bytes_count : (m : List ℕ) {e : ℕ} {rs : List Range} → Ascending (length m) e rs → (at left : ℕ) → left_of rs at left ≡ 0
    → length (bytes_of rs m at left) ≡ left
bytes_count m s at left h = omega (arith, bytes_long m s at left)

-- ---- a read that succeeds gives what the ranges give

pub read_of_lem : (m : List ℕ) (rs : List Range) (at left : ℕ) → left_of rs at left ≡ 0 → read_of rs m at left ≡ bytes_of rs m at left
unfolding read_of readable_of
read_of_lem m rs at left h = λ i. cond (eq-eqb (left_of rs at left) 0 h i) (bytes_of rs m at left) []
