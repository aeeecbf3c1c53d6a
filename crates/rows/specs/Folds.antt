-- Every row of a list changed, from row 0 on, in any state: which rows are done, and which are still as they were.
-- Row k of a list is the w elements from `base + k * w`. Assumes nothing.
use Rattle.std.specs.Prelude.{◌≡◌, List}
use Rattle.std.proofs.Math.Path.{refl, ap}
use Rattle.std.proofs.Common.{◌∙◌, add-one, mul-le-mul_right, suc-mul, eq-or-lt_of_le}
use Rattle.std.proofs.Math.Logic.{⊎_elim}
use Prim.Native.Nat.{ℕ, zero, suc, ◌+◌, ◌*◌, ◌≤◌, ◌<◌}
use native.Mathlib.Omega.{arith}
use Rattle.std.proofs.Math.ListN.{length}
use Rattle.rows.specs.Rows.{put, part, length_put, part_put_same, part_put_before, part_put_after}

-- a row ends where the next begins, or before
pub row_end : (base w k n : ℕ) → k < n → base + k * w + w ≤ base + n * w
row_end base w k n h =
    let e : suc k * w ≤ n * w = mul-le-mul_right w h in
    omega (arith, suc-mul k w)

pub row_fits {ℓ} : {A : Type ℓ} (base w k n : ℕ) (s : List A) → k < n → base + n * w ≤ length s → base + k * w + w ≤ length s
row_fits base w k n s h l = omega (arith, row_end base w k n h)

-- step 0 to step k - 1, one after the other
unfoldable pub up_to {ℓ} : {S : Type ℓ} → (ℕ → S → S) → ℕ → S → S
up_to step zero st = st
up_to step (suc k) st = step k (up_to step k st)

pub up_to_more {ℓ} : {S : Type ℓ} (step : ℕ → S → S) (k : ℕ) (st : S) → step k (up_to step k st) ≡ up_to step (k + 1) st
unfolding up_to
up_to_more step k st = rw add-one

-- what no step changes
pub up_to_kept {ℓ ℓ'} : {S : Type ℓ} {X : Type ℓ'} (step : ℕ → S → S) (f : S → X) → ((k : ℕ) (st : S) → f (step k st) ≡ f st)
    → (k : ℕ) (st : S) → f (up_to step k st) ≡ f st
unfolding up_to
up_to_kept step f same zero st = refl
up_to_kept step f same (suc k) st = same k (up_to step k st) ∙ up_to_kept step f same k st

-- step k puts row k of the list `xs st`, where it is inside, and changes no other row
pub record RowStep {ℓ ℓ'} {S : Type ℓ} {A : Type ℓ'} (step : ℕ → S → S) (xs : S → List A) (base w : ℕ) (row : ℕ → S → List A) : Type (ℓ ⊔ ℓ') where
  pub wide : (k : ℕ) (st : S) → base + k * w + w ≤ length (xs st) → length (row k st) ≡ w
  pub puts : (k : ℕ) (st : S) → base + k * w + w ≤ length (xs st) → xs (step k st) ≡ put (xs st) (base + k * w) (row k st)

module _ {ℓ ℓ'} {S : Type ℓ} {A : Type ℓ'} {step : ℕ → S → S} {xs : S → List A} {base w : ℕ} {row : ℕ → S → List A}
    (r : RowStep step xs base w row) (n : ℕ) (st : S) (fits : base + n * w ≤ length (xs st)) where
  -- the length is kept
  pub length_up_to : (k : ℕ) → k ≤ n → length (xs (up_to step k st)) ≡ length (xs st)
  unfolding up_to
  length_up_to zero h = refl
  length_up_to (suc k) h =
      let s = up_to step k st in
      let ih = length_up_to k (omega arith) in
      let f : base + k * w + w ≤ length (xs s) = rw ih (row_fits base w k n (xs st) h fits) in
      let g : base + k * w + length (row k s) ≤ length (xs s) = rw (r.wide k s f) f in
      ap length (r.puts k s f) ∙ length_put (xs s) (base + k * w) (row k s) g ∙ ih

  -- row k and the state before it: the row is inside
  inside : (k : ℕ) → k < n → base + k * w + w ≤ length (xs (up_to step k st))
  inside k h = rw (length_up_to k (omega arith)) (row_fits base w k n (xs st) h fits)

  inside_row : (k : ℕ) → k < n → base + k * w + length (row k (up_to step k st)) ≤ length (xs (up_to step k st))
  inside_row k h = rw (r.wide k (up_to step k st) (inside k h)) (inside k h)

  -- a row that is still to come is as it was
  pub row_left : (k j : ℕ) → k ≤ j → j < n → part w (base + j * w) (xs (up_to step k st)) ≡ part w (base + j * w) (xs st)
  unfolding up_to
  row_left zero j h hj = refl
  row_left (suc k) j h hj =
      let s = up_to step k st in
      let b : k < n = omega arith in
      ap (part w (base + j * w)) (r.puts k s (inside k b))
      ∙ part_put_after (xs s) (base + k * w) (row k s) (inside_row k b) w (base + j * w) (rw (r.wide k s (inside k b)) (row_end base w k j h))
      ∙ row_left k j (omega arith) hj

  -- a row that was passed is what its step put there
  pub row_done : (k j : ℕ) → k ≤ n → j < k → part w (base + j * w) (xs (up_to step k st)) ≡ row j (up_to step j st)
  unfolding up_to
  row_done zero j hk h = absurd (omega arith)
  row_done (suc k) j hk h =
      let s = up_to step k st in
      ap (part w (base + j * w)) (r.puts k s (inside k hk))
      ∙ ⊎_elim
      (λ (e : suc j ≡ suc k).
      let q : j ≡ k = omega arith in
      rw q (part_put_same (xs s) (base + k * w) (row k s) (inside_row k hk) w (r.wide k s (inside k hk))))
      (λ (l : suc j < suc k).
      part_put_before (xs s) (base + k * w) (row k s) (inside_row k hk) w (base + j * w) (row_end base w j k (omega arith))
      ∙ row_done k j (omega arith) (omega arith))
      (eq-or-lt_of_le h)

-- ---- the rows of two lists, each changed by both

pub record Both {ℓ} (A B : Type ℓ) : Type ℓ where
  pub xs : List A
  pub ys : List B

-- rows w wide from `a` on in `xs`, u wide from `b` on in `ys`: f gives the row of `xs` and g that of `ys`
module _ {ℓ} {A B : Type ℓ} (a w b u : ℕ) (f : List A → List B → List A) (g : List A → List B → List B) where
  abbrev pub row_xs : ℕ → Both A B → List A
  row_xs k st = f (part w (a + k * w) st.xs) (part u (b + k * u) st.ys)

  abbrev pub row_ys : ℕ → Both A B → List B
  row_ys k st = g (part w (a + k * w) st.xs) (part u (b + k * u) st.ys)

  unfoldable pub row_step : ℕ → Both A B → Both A B
  row_step k st = record { xs = put st.xs (a + k * w) (row_xs k st); ys = put st.ys (b + k * u) (row_ys k st) }

  pub row_step_xs : ((x : List A) (y : List B) → length (f x y) ≡ w) → RowStep row_step (λ st. st.xs) a w row_xs
  unfolding row_step
  row_step_xs fw = record { wide = λ k st _. fw _ _; puts = λ k st _. refl }

  pub row_step_ys : ((x : List A) (y : List B) → length (g x y) ≡ u) → RowStep row_step (λ st. st.ys) b u row_ys
  unfolding row_step
  row_step_ys gu = record { wide = λ k st _. gu _ _; puts = λ k st _. refl }
