-- Lists one behind the other, and what stands where. Assumes nothing.
use Rattle.std.specs.Prelude.{◌≡◌, get_or, drop}
use Rattle.std.proofs.Math.Path.{refl, ap}
use Rattle.std.proofs.Common.{sym, ◌∙◌, eq-or-lt_of_le, suc-mul, zero-mul}
use Rattle.std.proofs.Math.Logic.{⊎_elim}
use mathlib.Core.List.{List, ◌++◌}
use Prim.Native.Nat.{ℕ, zero, suc, ◌+◌, ◌*◌, ◌≤◌, ◌<◌}
use native.Mathlib.Omega.{arith}
use Rattle.std.proofs.Math.ListN.{length, take, replicate, length-drop, replicate-append-replicate}
use Rattle.std.proofs.Math.Seq.{take_at, take-append-le, drop-append-add}
use Rattle.std.proofs.lemmas.List.{drop-append-le}
use Rattle.rows.specs.Rows.{part}
use Rattle.rows.specs.Folds.{row_end}
use Rattle.rows.specs.Tables.{joined, length_joined}
use Rattle.sound_rows.specs.Spelled.{part_at, part_whole}

module _ {ℓ} {A : Type ℓ} where
  -- ---- what is read of lists one behind the other

  -- of the first
  pub part_first : (a x : List A) (w at : ℕ) → at + w ≤ length a → part w at (a ++ x) ≡ part w at a
  unfolding part
  part_first a x w at h =
      let hw : w ≤ length (drop at a) = simp length-drop (omega arith) in
      let ha : at ≤ length a = omega (arith, h) in
      ap (take w) (drop-append-le at a x ha) ∙ take-append-le w (drop at a) x hw

  -- of those behind the first
  pub part_behind : (a x : List A) (w to : ℕ) {n at : ℕ} → length a ≡ n → at ≡ n + to → part w at (a ++ x) ≡ part w to x
  unfolding part
  part_behind a x w to {n} {at} l e =
      let q : at ≡ length a + to = omega arith in
      ap (λ (k : ℕ). take w (drop k (a ++ x))) q ∙ ap (take w) (drop-append-add a x to)

  -- the first itself
  pub part_front : (a x : List A) (w : ℕ) → length a ≡ w → part w 0 (a ++ x) ≡ a
  unfolding part
  part_front a x w l = take_at a x w l

  -- ---- rows one behind the other

  row_inside : (w n : ℕ) (f : ℕ → List A) → ((k : ℕ) → length (f k) ≡ w) → (i : ℕ) → i < n → i * w + w ≤ length (joined n f)
  row_inside w n f wide i h = rw (length_joined w n f wide) (omega (arith, row_end 0 w i n h))

  -- row i
  pub part_joined : (w n : ℕ) (f : ℕ → List A) → ((k : ℕ) → length (f k) ≡ w) → (i : ℕ) → i < n → part w (i * w) (joined n f) ≡ f i
  unfolding joined
  part_joined w zero f wide i h = absurd (omega arith)
  part_joined w (suc n) f wide i h =
      ⊎_elim
      (λ (e : suc i ≡ suc n).
      let q : i ≡ n = omega arith in
      let z : n * w ≡ n * w + 0 = omega arith in
      rw q (part_behind (joined n f) (f n) w 0 (length_joined w n f wide) z ∙ part_whole w (f n) (wide n)))
      (λ (l : suc i < suc n).
      let b : i < n = omega arith in
      part_first (joined n f) (f n) w (i * w) (row_inside w n f wide i b) ∙ part_joined w n f wide i b)
      (eq-or-lt_of_le h)

  -- row i, where more follows
  pub part_rows : (w n : ℕ) (f : ℕ → List A) → ((k : ℕ) → length (f k) ≡ w) → (i : ℕ) → i < n → (x : List A) → part w (i * w) (joined n f ++ x) ≡ f i
  part_rows w n f wide i h x =
      part_first (joined n f) x w (i * w) (row_inside w n f wide i h) ∙ part_joined w n f wide i h

  -- element j of row i
  pub get_d_joined : (w n : ℕ) (f : ℕ → List A) → ((k : ℕ) → length (f k) ≡ w) → (i j : ℕ) (z : A) → i < n → j < w
      → get_or (joined n f) (i * w + j) z ≡ get_or (f i) j z
  get_d_joined w n f wide i j z hi hj =
      sym (part_at w (i * w) (joined n f) j z hj) ∙ ap (λ (r : List A). get_or r j z) (part_joined w n f wide i hi)

  -- ---- one element over and over

  pub joined_same : (w n : ℕ) (x : A) → joined n (λ _. replicate w x) ≡ replicate (n * w) x
  unfolding joined
  joined_same w zero x = ap (λ (k : ℕ). replicate k x) (sym (zero-mul w))
  joined_same w (suc n) x =
      ap (λ (r : List A). r ++ replicate w x) (joined_same w n x)
      ∙ replicate-append-replicate (n * w) w x
      ∙ ap (λ (k : ℕ). replicate k x) (sym (suc-mul n w))

  pub get_d_same : (n i : ℕ) (x : A) → get_or (replicate n x) i x ≡ x
  get_d_same zero i x = refl
  get_d_same (suc n) zero x = refl
  get_d_same (suc n) (suc i) x = get_d_same n i x
