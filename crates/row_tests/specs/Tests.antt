-- Tests in a row, a test of every number below n, and a sum over them. Assumes nothing.
use Rattle.std.specs.Prelude.{◌≡◌, Bool, true, false, not, ◌&&◌, List, [], ◌∷◌, get_or}
use Rattle.std.proofs.Math.Path.{refl}
use Rattle.std.proofs.Common.{sym, ◌∙◌, true≢false, eq-or-lt_of_le, suc-mul, add-one}
use Rattle.std.proofs.Math.Logic.{⊎_elim}
use Prim.Native.Nat.{ℕ, zero, suc, ◌+◌, ◌*◌, ◌≤◌, ◌<◌}
use native.Mathlib.Omega.{arith}
use borrow.Author.Tests.{not-true, not-false}

-- ---- two tests

pub both_left : (a b : Bool) → (a && b) ≡ true → a ≡ true
both_left true b h = refl
both_left false b h = h

pub both_right : (a b : Bool) → (a && b) ≡ true → b ≡ true
both_right true b h = h
both_right false b h = absurd (true≢false (sym h))

-- ---- the tests of a list

unfoldable pub every : List Bool → Bool
every [] = true
every (b ∷ l) = b && every l

pub every_at : (l : List Bool) → every l ≡ true → (i : ℕ) → get_or l i true ≡ true
unfolding every
every_at [] h i = refl
every_at (b ∷ l) h zero = both_left b (every l) h
every_at (b ∷ l) h (suc i) = every_at l (both_right b (every l) h) i

-- where one fails, not every one holds
pub every_cut : (l : List Bool) (i : ℕ) → get_or l i true ≡ false → false ≡ every l
every_cut l i q = go (every l) refl
  where
    go : (b : Bool) → every l ≡ b → false ≡ b
    go true e = absurd (true≢false (sym (every_at l e i) ∙ q))
    go false e = refl

-- the same of a test that a call answers, r
pub every_fail : (l : List Bool) (i : ℕ) {r : Bool} → r ≡ get_or l i true → not r ≡ true → false ≡ every l
every_fail l i {r} e q = every_cut l i (sym e ∙ not-true r q)

pub passes : {r b : Bool} → r ≡ b → not r ≡ false → b ≡ true
passes {r} e q = sym e ∙ not-false r q

-- ---- a test of every number below n

unfoldable pub all : ℕ → (ℕ → Bool) → Bool
all zero p = true
all (suc n) p = all n p && p n

module _ (p : ℕ → Bool) where
  pub all_at : (n : ℕ) → all n p ≡ true → (i : ℕ) → i < n → p i ≡ true
  unfolding all
  all_at zero h i l = absurd (omega arith)
  all_at (suc n) h i l =
      ⊎_elim
      (λ (e : suc i ≡ suc n). let q : i ≡ n = omega arith in rw q (both_right (all n p) (p n) h))
      (λ (q : suc i < suc n). all_at n (both_left (all n p) (p n) h) i (omega arith))
      (eq-or-lt_of_le l)

  pub all_each : (n : ℕ) → ((i : ℕ) → i < n → p i ≡ true) → all n p ≡ true
  unfolding all
  all_each zero h = refl
  all_each (suc n) h = rw (all_each n (λ i l. h i (omega arith)), h n (omega arith))

-- a loop of which each turn tests a number, r, and ends where the test fails: before turn i
pub record Passing (p : ℕ → Bool) (n i : ℕ) : Type 0 where
  pub count : i ≤ n
  pub passed : all i p ≡ true

pub pass_begin : (p : ℕ → Bool) (n : ℕ) → Passing p n 0
unfolding all
pass_begin p n = record { count = omega arith; passed = refl }

module _ {p : ℕ → Bool} {n i : ℕ} (t : Passing p n i) where
  pub pass_more : i < n → {r : Bool} → r ≡ p i → not r ≡ false → Passing p n (i + 1)
  unfolding all
  pass_more l {r} e q = record { count = omega arith; passed = rw (add-one, t.passed) (sym e ∙ not-false r q) }

  pub pass_cut : i < n → {r : Bool} → r ≡ p i → not r ≡ true → false ≡ all n p
  pass_cut l {r} e q = go (all n p) refl
    where
      go : (b : Bool) → all n p ≡ b → false ≡ b
      go true h = absurd (true≢false (sym (all_at p n h i l) ∙ sym e ∙ not-true r q))
      go false h = refl

  pub pass_end : n ≤ i → true ≡ all n p
  pass_end h =
      let e : i ≡ n = omega (arith, t.count) in
      sym (rw e at t.passed)

-- ---- a sum

-- f 0 + .. + f (n - 1)
unfoldable pub sum : ℕ → (ℕ → ℕ) → ℕ
sum zero f = 0
sum (suc n) f = sum n f + f n

pub sum_none : (f : ℕ → ℕ) → 0 ≡ sum 0 f
unfolding sum
sum_none f = refl

pub sum_more : (f : ℕ → ℕ) (i s : ℕ) → s ≡ sum i f → s + f i ≡ sum (i + 1) f
unfolding sum
sum_more f i s e = rw (add-one, e)

-- what is at most m each
pub sum_below : (f : ℕ → ℕ) (m n : ℕ) → ((i : ℕ) → i < n → f i ≤ m) → sum n f ≤ n * m
unfolding sum
sum_below f m zero h = omega arith
sum_below f m (suc n) h =
    let s : sum n f ≤ n * m = sum_below f m n (λ i l. h i (omega arith)) in
    omega (arith, h n (omega arith), suc-mul n m)
