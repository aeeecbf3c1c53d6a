-- Ranges that ascend: each begins at or after the end of the one before, has its part inside n bytes, and ends at 2^63 or before.
use Rattle.std.specs.Prelude.{ℕ, ◌+◌, ◌^◌, ◌≤◌, List, [], ◌∷◌}
use Rattle.ranges.specs.Ranges.{Range}

-- from the address e on
pub data Ascending (n : ℕ) : ℕ → List Range → Type 0 where
  none : {e : ℕ} → Ascending n e []
  more : {e : ℕ} {r : Range} {rs : List Range} → e ≤ r.base → r.start + r.size ≤ n → r.base + r.size ≤ 2 ^ 63
      → Ascending n (r.base + r.size) rs → Ascending n e (r ∷ rs)
