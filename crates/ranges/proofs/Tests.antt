-- Tests: each has two answers, and decides whether one after it is asked. Assumes nothing.
use Rattle.std.proofs.Common.{◌≡◌, ℕ, ◌<◌, ◌≤◌, Bool, true, false, ◌&&◌, ltb, ◌⊎◌, sym, refl, inl, inr, ltb-false, ltb-true}
use mathlib.Core.Logic.{⊎_map}

pub true_or_false : (b : Bool) → (b ≡ true) ⊎ (b ≡ false)
true_or_false true = inl refl
true_or_false false = inr refl

pub lt_or_le : (a b : ℕ) → (a < b) ⊎ (b ≤ a)
lt_or_le a b = ⊎_map (ltb-true a b) (ltb-false a b) (true_or_false (ltb a b))

-- a test that is passed leaves what is asked after it
pub and_passed : {a : Bool} (b : Bool) → a ≡ true → b ≡ a && b
and_passed b e = λ i. sym e i && b

-- one that is failed decides
pub and_failed : {a : Bool} (b : Bool) → a ≡ false → false ≡ a && b
and_failed b e = λ i. sym e i && b
