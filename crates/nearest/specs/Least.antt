-- The first place at which a function is least. Definitions only.
use Rattle.std.specs.Prelude.{ℕ, zero, suc, ◌≤◌, ◌<◌, cond, ltb}

-- place k, if f is less there than at the best place before it; else that one
unfoldable pub better : (ℕ → ℕ) → ℕ → ℕ → ℕ
better f k best = cond (ltb (f k) (f best)) k best

-- of the places 0 to n, the first at which f is least
unfoldable pub least_of : (ℕ → ℕ) → ℕ → ℕ
least_of f zero = zero
least_of f (suc n) = better f (suc n) (least_of f n)

-- what makes a place the first of the least among 0 to n: f is nowhere less, and at every lower place it is more
pub record First (f : ℕ → ℕ) (n best : ℕ) : Type 0 where
  pub within : best ≤ n
  pub least : (k : ℕ) → k ≤ n → f best ≤ f k
  pub first : (k : ℕ) → k < best → f best < f k
