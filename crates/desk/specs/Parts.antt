-- Parts of a row: an element of it, and a row of which only the front changes. Assumes nothing.
use Rattle.std.specs.Prelude.{◌≡◌, List, ◌++◌, ℕ, ◌+◌, ◌≤◌, ◌<◌, length, get_or, take, drop}
use Rattle.std.proofs.Common.{sym, ◌∙◌, arith, take-add, drop-drop}
use Rattle.std.proofs.Math.Path.{ap}
use Rattle.std.proofs.Math.Seq.{get_or-take, get_or-drop, drop_at}
use Rattle.rows.specs.Rows.{put, part, length_part, length_put, part_put_after, put_part, put_put}

module _ {ℓ} {A : Type ℓ} where
  -- an element of a row
  pub get_d_part : (w at : ℕ) (s : List A) (j : ℕ) (z : A) → j < w → get_or (part w at s) j z ≡ get_or s (at + j) z
  unfolding part
  get_d_part w at s j z h = get_or-take w (drop at s) j z h ∙ get_or-drop at s j z

  -- a row without its first l elements
  drop_part : (l v at : ℕ) (s : List A) → at + l ≤ length s → drop l (part (l + v) at s) ≡ part v (at + l) s
  unfolding part
  drop_part l v at s h =
      ap (drop l) (take-add l v (drop at s))
      ∙ drop_at (take l (drop at s)) (take v (drop l (drop at s))) l (length_part l at s h)
      ∙ ap (take v) (drop-drop l at s)

  -- a row that stays as it was behind r is put by putting r
  pub put_front : (v at : ℕ) (s r : List A) → at + (length r + v) ≤ length s
      → put s at (r ++ drop (length r) (part (length r + v) at s)) ≡ put s at r
  put_front v at s r h =
      let fits : at + length r ≤ length s = omega arith in
      let long : at + length r + v ≤ length (put s at r) = rw (length_put s at r fits) (omega arith) in
      let room : at + length r + length (part v (at + length r) s) ≤ length s = rw (length_part v (at + length r) s (omega arith)) (omega arith) in
      ap (λ (q : List A). put s at (r ++ q)) (drop_part (length r) v at s fits)
      ∙ sym (put_put s at r (part v (at + length r) s) room)
      ∙ ap (put (put s at r) (at + length r)) (sym (part_put_after s at r fits v (at + length r) (omega arith)))
      ∙ put_part v (at + length r) (put s at r) long
