-- Rows of a list, of any width and any element: `part` reads one, `put` writes one, and what each reads as after the other.
-- Assumes nothing.
use Rattle.std.specs.Prelude.{◌≡◌, ℕ, suc, ◌+◌, ◌-◌, ◌≤◌, ◌<◌, set, get_or}
use Rattle.std.proofs.Math.Path.{ap, sym}
use Rattle.std.proofs.Common.{◌∙◌, add-one, zero-add, length-take, get_or-drop, length-take-le}
use mathlib.Core.List.{List, [], ◌∷◌, ◌++◌, append_assoc, append-nil}
use native.Mathlib.Omega.{arith}
use Rattle.std.proofs.Math.ListN.{length, take, drop, length-append, length-drop, take-append-drop}
use Rattle.std.proofs.Math.Seq.{take-suc, set_split, append_snoc, drop-length, take-length, take_at, drop_at, drop-drop, drop-append-le, drop-append-add}
use Rattle.std.proofs.lemmas.List.{take-append-le}

module _ {ℓ} {A : Type ℓ} where
  -- the `w` elements from index `at`
  unfoldable pub part : ℕ → ℕ → List A → List A
  part w at s = take w (drop at s)

  -- `r` in place of as many elements of `s` from index `at`
  unfoldable pub put : List A → ℕ → List A → List A
  put s at r = take at s ++ r ++ drop (at + length r) s

  -- ---- a row that is read

  pub length_part : (w at : ℕ) (s : List A) → at + w ≤ length s → length (part w at s) ≡ w
  unfolding part
  length_part w at s h = simp (length-take, length-drop) (omega arith)

  pub part_all : (s : List A) → part (length s) 0 s ≡ s
  unfolding part
  part_all s = take-length s

  -- one element more
  pub part_more : (k at : ℕ) (s : List A) (z : A) → at + k < length s → part (k + 1) at s ≡ part k at s ++ (get_or s (at + k) z ∷ [])
  unfolding part
  part_more k at s z h =
      let b : k < length (drop at s) = simp length-drop (omega arith) in
      rw (add-one, take-suc (drop at s) k z b, get_or-drop)

  part_append : (w b : ℕ) (p x : List A) → b + w ≤ length p → part w b (p ++ x) ≡ part w b p
  unfolding part
  part_append w b p x h =
      let hb : b ≤ length p = omega arith in
      let hw : w ≤ length (drop b p) = simp length-drop (omega arith) in
      rw drop-append-le (take-append-le w (drop b p) x hw)

  -- ---- a row that is put

  module _ (s : List A) (at : ℕ) (r : List A) (fits : at + length r ≤ length s) where
    at_len : length (take at s) ≡ at
    at_len = length-take-le at s (omega arith)

    head_len : length (take at s ++ r) ≡ at + length r
    head_len = rw (length-append, at_len)

    pub length_put : length (put s at r) ≡ length s
    unfolding put
    length_put = rw (length-append, head_len, length-drop) (omega arith)

    pub put_is : put s at r ≡ take at s ++ (r ++ drop (at + length r) s)
    unfolding put
    put_is = append_assoc (take at s) r (drop (at + length r) s)

    -- the row that was put
    pub part_put_same : (w : ℕ) → length r ≡ w → part w at (put s at r) ≡ r
    unfolding part
    part_put_same w h = rw (put_is, drop_at (take at s) (r ++ drop (at + length r) s) at at_len) (take_at r (drop (at + length r) s) w h)

    -- a row before it
    pub part_put_before : (w b : ℕ) → b + w ≤ at → part w b (put s at r) ≡ part w b s
    part_put_before w b h =
        let hp : b + w ≤ length (take at s) = rw at_len h in
        rw put_is (part_append w b (take at s) (r ++ drop (at + length r) s) hp)
        ∙ sym (part_append w b (take at s) (drop at s) hp)
        ∙ ap (part w b) (take-append-drop at s)

    take_put : take (at + length r) (put s at r) ≡ take at s ++ r
    unfolding put
    take_put = take_at (take at s ++ r) (drop (at + length r) s) (at + length r) head_len

    drop_put : (b : ℕ) → at + length r ≤ b → drop b (put s at r) ≡ drop b s
    unfolding put
    drop_put b h =
        let e₂ : at + length r + (b - (at + length r)) ≡ b = omega arith in
        let e : b ≡ length (take at s ++ r) + (b - (at + length r)) = rw head_len (omega arith) in
        ap (λ (k : ℕ). drop k (take at s ++ r ++ drop (at + length r) s)) e
        ∙ drop-append-add (take at s ++ r) (drop (at + length r) s) (b - (at + length r))
        ∙ drop-drop (b - (at + length r)) (at + length r) s
        ∙ ap (λ (k : ℕ). drop k s) e₂

    -- a row after it
    pub part_put_after : (w b : ℕ) → at + length r ≤ b → part w b (put s at r) ≡ part w b s
    unfolding part
    part_put_after w b h = ap (take w) (drop_put b h)

  -- a row put where it stands
  pub put_part : (w at : ℕ) (s : List A) → at + w ≤ length s → put s at (part w at s) ≡ s
  unfolding put part
  put_part w at s h =
      rw length_part (ap (λ (x : List A). take at s ++ part w at s ++ x) (sym (drop-drop w at s)))
      ∙ append_assoc (take at s) (part w at s) (drop w (drop at s))
      ∙ ap (λ (x : List A). take at s ++ x) (take-append-drop w (drop at s))
      ∙ take-append-drop at s

  -- a row as long as the list
  pub put_all : (s r : List A) → length r ≡ length s → put s 0 r ≡ r
  unfolding put
  put_all s r h = rw (zero-add, h, drop-length) (append-nil r)

  -- an element that is stored is a row of one
  pub put_one : (s : List A) (i : ℕ) (x : A) → i < length s → set s i x ≡ put s i (x ∷ [])
  unfolding put
  put_one s i x h =
      set_split s i x h
      ∙ sym (append_snoc (take i s) x (drop (suc i) s))
      ∙ ap (λ (k : ℕ). take i s ++ (x ∷ []) ++ drop k s) (sym (add-one i))

  -- a second piece, put right after the first
  pub put_put : (s : List A) (at : ℕ) (r q : List A) → at + length r + length q ≤ length s
      → put (put s at r) (at + length r) q ≡ put s at (r ++ q)
  unfolding put
  put_put s at r q h =
      let f : at + length r ≤ length s = omega arith in
      let e : at + length r + length q ≡ at + length (r ++ q) = rw length-append (omega arith) in
      ap (λ (x : List A). x ++ q ++ drop (at + length r + length q) (put s at r)) (take_put s at r f)
      ∙ ap (λ (x : List A). take at s ++ r ++ q ++ x) (drop_put s at r f (at + length r + length q) (omega arith))
      ∙ ap (λ (x : List A). x ++ drop (at + length r + length q) s) (append_assoc (take at s) r q)
      ∙ ap (λ (k : ℕ). take at s ++ (r ++ q) ++ drop k s) e

  -- the same, as a run of stores finds it: `t` after the first pieces, `n` long together, and `u` after the next
  pub put_more : (s : List A) (at n : ℕ) (r q : List A) {t u : List A} → length r ≡ n → at + n + length q ≤ length s
      → t ≡ put s at r → u ≡ put t (at + n) q → u ≡ put s at (r ++ q)
  put_more s at n r q hr h e₁ e₂ =
      let h' : at + length r + length q ≤ length s = rw hr h in
      e₂
      ∙ ap (λ (x : List A). put x (at + n) q) e₁
      ∙ ap (λ (k : ℕ). put (put s at r) (at + k) q) (sym hr)
      ∙ put_put s at r q h'
