-- Word j of each of n rows, w words wide: a bound on them, and that a row which is put keeps it. Assumes nothing.
use Rattle.std.specs.Prelude.{◌≡◌, refl, Bool, true, false, ◌⊎◌, List, ℕ, ◌+◌, ◌*◌, ◌≤◌, ◌<◌, ltb, length, get_or}
use Rattle.std.proofs.Common.{inl, inr, ⊎_elim, arith, ltb-true, ltb-false}
use Rattle.rows.specs.Rows.{put}
use Rattle.rows.specs.Folds.{row_end}
use Rattle.fields.specs.Writes.{get_d_put_before, get_d_put_in, get_d_put_after}

-- word j of row k is at most b
abbrev pub AtMost : ℕ → ℕ → ℕ → ℕ → List ℕ → Type 0
AtMost n w j b s = (k : ℕ) → k < n → get_or s (k * w + j) 0 ≤ b

by_tests : (a b : ℕ) (t u : Bool) → ltb a b ≡ t → ltb b a ≡ u → (a ≡ b) ⊎ ((a < b) ⊎ (b < a))
by_tests a b true u e f = inr (inl (ltb-true a b e))
by_tests a b false true e f = inr (inr (ltb-true b a f))
by_tests a b false false e f = inl (omega (arith, ltb-false a b e, ltb-false b a f))

same_or_apart : (a b : ℕ) → (a ≡ b) ⊎ ((a < b) ⊎ (b < a))
same_or_apart a b = by_tests a b (ltb a b) (ltb b a) refl refl

-- a row that is put keeps the bound where its own word does
pub at_most_put : (n w j b : ℕ) (s : List ℕ) → j < w → length s ≡ n * w → AtMost n w j b s
    → (i : ℕ) (r : List ℕ) → i < n → length r ≡ w → get_or r j 0 ≤ b → AtMost n w j b (put s (i * w) r)
at_most_put n w j b s hj hs all i r hi hr below k hk =
    let fits : i * w + length r ≤ length s = omega (arith, row_end 0 w i n hi) in
    ⊎_elim
    (λ (e : k ≡ i). rw (e, get_d_put_in s (i * w) r fits j (omega arith)) below)
    (⊎_elim
    (λ (l : k < i). rw (get_d_put_before s (i * w) r fits (k * w + j) (omega (arith, row_end 0 w k i l))) (all k hk))
    (λ (l : i < k). rw (get_d_put_after s (i * w) r fits (k * w + j) (omega (arith, row_end 0 w i k l))) (all k hk)))
    (same_or_apart k i)
