-- Rows that a step puts or leaves, in a list that has them from its begin on. Assumes nothing.
use Rattle.std.specs.Prelude.{ℕ, ◌+◌, ◌*◌, ◌≤◌, ◌<◌, Bool, true, false, cond, List, ◌++◌, ◌≡◌, refl, set, drop}
use Rattle.std.proofs.Common.{zero-add, sym, ◌∙◌, length-set}
use native.Mathlib.Omega.{arith}
use Rattle.std.proofs.Math.Path.{ap}
use Rattle.std.proofs.Math.ListN.{length, take}
use Rattle.std.proofs.Math.Seq.{take-set-le, take-set-lt, drop-set-lt}
use Rattle.std.proofs.lemmas.List.{drop-set-add}
use Rattle.rows.specs.Rows.{part, put, length_part, length_put, put_part}
use Rattle.rows.specs.Folds.{RowStep, up_to, row_fits, length_up_to, row_left, row_done}

-- ---- a row whose first element is stored

module _ {A : Type 0} (s : List A) (at w : ℕ) (x : A) where
  part_set : 0 < w → part w at (set s at x) ≡ set (part w at s) 0 x
  unfolding part
  part_set h =
      let e : at ≡ at + 0 = omega arith in
      ap (λ (i : ℕ). take w (drop at (set s i x))) e ∙ ap (take w) (drop-set-add at s 0 x) ∙ take-set-lt w (drop at s) 0 x h

  put_set : (r : List A) → 0 < length r → put (set s at x) at r ≡ put s at r
  unfolding put
  put_set r h =
      let b : at < at + length r = omega arith in
      (λ i. take-set-le at s at x (omega arith) i ++ r ++ drop-set-lt (at + length r) s at x b i)

  pub set_row : 0 < w → at + w ≤ length s → set s at x ≡ put s at (set (part w at s) 0 x)
  set_row h fits =
      let wide : length (set (part w at s) 0 x) ≡ w = simp length-set (length_part w at s fits) in
      sym (put_part w at (set s at x) (simp length-set fits))
      ∙ ap (put (set s at x) at) (part_set h)
      ∙ put_set (set (part w at s) 0 x) (omega arith)

-- ---- a row that is put where a test passes, and else left

module _ {A : Type 0} (put? : Bool) (w at : ℕ) (r s : List A) (fits : at + w ≤ length s) where
  pub length_kept : length r ≡ w → length (cond put? r (part w at s)) ≡ w
  length_kept h = kept put? where
    kept : (b : Bool) → length (cond b r (part w at s)) ≡ w
    kept true = h
    kept false = length_part w at s fits

  pub put_kept : cond put? (put s at r) s ≡ put s at (cond put? r (part w at s))
  put_kept = kept put? where
    kept : (b : Bool) → cond b (put s at r) s ≡ put s at (cond b r (part w at s))
    kept true = refl
    kept false = sym (put_part w at s fits)

-- ---- rows from the list's begin on

pub from_zero : {S A : Type 0} {step : ℕ → S → S} {xs : S → List A} {w : ℕ} {row : ℕ → S → List A}
    → ((k : ℕ) (st : S) → k * w + w ≤ length (xs st) → length (row k st) ≡ w)
    → ((k : ℕ) (st : S) → k * w + w ≤ length (xs st) → xs (step k st) ≡ put (xs st) (k * w) (row k st)) → RowStep step xs 0 w row
from_zero {xs = xs} {w = w} {row = row} wide puts = record {
  wide = λ k st h. wide k st (rw zero-add at h);
  puts = λ k st h. puts k st (rw zero-add at h) ∙ ap (λ (a : ℕ). put (xs st) a (row k st)) (sym (zero-add (k * w)));
}

-- one step keeps the length
pub length_step : {S A : Type 0} {step : ℕ → S → S} {xs : S → List A} {w : ℕ} {row : ℕ → S → List A} → RowStep step xs 0 w row
    → (n k : ℕ) (st : S) → k < n → length (xs st) ≡ n * w → length (xs (step k st)) ≡ n * w
length_step {xs = xs} {w = w} {row = row} r n k st b size =
    let fits : 0 + k * w + w ≤ length (xs st) = row_fits 0 w k n (xs st) b (omega (arith, size)) in
    ap length (r.puts k st fits) ∙ length_put (xs st) (0 + k * w) (row k st) (rw (r.wide k st fits) fits) ∙ size

module _ {S A : Type 0} {step : ℕ → S → S} {xs : S → List A} {w : ℕ} {row : ℕ → S → List A} (r : RowStep step xs 0 w row)
    (n : ℕ) (st : S) (size : length (xs st) ≡ n * w) where
  fits : 0 + n * w ≤ length (xs st)
  fits = omega (arith, size)

  pub length_zero : (k : ℕ) → k ≤ n → length (xs (up_to step k st)) ≡ n * w
  length_zero k h = length_up_to r n st fits k h ∙ size

  -- a row that is still to come is as it was
  pub left_zero : (j k : ℕ) → j ≤ k → k < n → part w (k * w) (xs (up_to step j st)) ≡ part w (k * w) (xs st)
  left_zero j k h b = rw zero-add at (row_left r n st fits j k h b)

  -- a row that was passed is what its step put there
  pub done_zero : (k : ℕ) → k < n → part w (k * w) (xs (up_to step n st)) ≡ row k (up_to step k st)
  done_zero k b = rw zero-add at (row_done r n st fits n k (omega arith) b)
