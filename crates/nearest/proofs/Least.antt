-- The first place at which a function is least: there is one, and `least_of` finds it. Assumes nothing.
use Prim.Native.Nat.{ℕ, zero, suc, ◌≤◌, ◌<◌}
use mathlib.Core.Path.{◌≡◌, refl}
use mathlib.Core.Bool.{Bool, true, false, cond}
use mathlib.Core.Logic.{⊎_elim}
use native.Mathlib.Nat.{eq-or-lt_of_le}
use native.Mathlib.Omega.{arith}
use borrow.Author.Tests.{ltb-true, ltb-false}
use lib.Dec.{ltb}
use Rattle.nearest.specs.Least.{better, least_of, First}

module _ (f : ℕ → ℕ) where
  -- of place 0 alone
  pub first_none : First f 0 0
  first_none = record { within = omega arith; least = none; first = λ k h. absurd (omega arith) }
    where
      none : (k : ℕ) → k ≤ 0 → f 0 ≤ f k
      none zero h = omega arith
      none (suc k) h = absurd (omega arith)

  -- a place up to the next one is that one, or lies before it
  either : {P : Type 0} (n k : ℕ) → k ≤ suc n → (k ≡ suc n → P) → (k ≤ n → P) → P
  either n k h p q = ⊎_elim p (λ (l : k < suc n). q (omega arith)) (eq-or-lt_of_le h)

  -- one place more, which is less than all before it
  pub first_take : (n best : ℕ) → First f n best → f (suc n) < f best → First f (suc n) (suc n)
  first_take n best p less = record {
    within = omega arith;
    least = λ k h. either n k h (λ q. rw q (omega arith)) (λ q. omega (arith, p.least k q));
    first = λ k h. omega (arith, p.least k (omega arith));
  }

  -- and which is not
  pub first_keep : (n best : ℕ) → First f n best → f best ≤ f (suc n) → First f (suc n) best
  first_keep n best p more = record {
    within = omega (arith, p.within);
    least = λ k h. either n k h (λ q. rw q (omega arith)) (p.least k);
    first = p.first;
  }

  by_case : (n best : ℕ) → First f n best → (b : Bool) → ltb (f (suc n)) (f best) ≡ b → First f (suc n) (cond b (suc n) best)
  by_case n best p true e = first_take n best p (ltb-true _ _ e)
  by_case n best p false e = first_keep n best p (ltb-false _ _ e)

  first_more : (n best : ℕ) → First f n best → First f (suc n) (better f (suc n) best)
  unfolding better
  first_more n best p = by_case n best p (ltb (f (suc n)) (f best)) refl

  -- `least_of` is such a place
  pub least_first : (n : ℕ) → First f n (least_of f n)
  unfolding least_of
  least_first zero = first_none
  least_first (suc n) = first_more n (least_of f n) (least_first n)

  -- there is one such place
  pub first_once : (n a b : ℕ) → First f n a → First f n b → a ≡ b
  first_once n a b p q = same (ltb a b) (ltb b a) refl refl
    where
      same : (x y : Bool) → ltb a b ≡ x → ltb b a ≡ y → a ≡ b
      same true y e g = absurd (omega (arith, q.first a (ltb-true a b e), p.least b q.within))
      same false true e g = absurd (omega (arith, p.first b (ltb-true b a g), q.least a p.within))
      same false false e g = omega (arith, ltb-false a b e, ltb-false b a g)

  -- the place of `least_of`
  pub first_least : (n best : ℕ) → First f n best → best ≡ least_of f n
  first_least n best p = first_once n best (least_of f n) p (least_first n)

-- two functions that are the same from 0 to n are least at the same place
pub least_same : (f g : ℕ → ℕ) (n : ℕ) → ((k : ℕ) → k ≤ n → f k ≡ g k) → least_of f n ≡ least_of g n
least_same f g n e =
    let p = least_first g n in
    let b = least_of g n in
    let eb : f b ≡ g b = e b p.within in
    let also : First f n b = record {
      within = p.within;
      least = λ k h. omega (arith, eb, e k h, p.least k h);
      first = λ k h. omega (arith, eb, e k (omega (arith, p.within)), p.first k h);
    } in
    first_once f n (least_of f n) b (least_first f n) also
