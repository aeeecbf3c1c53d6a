-- The samples that the sixteen nibbles decode to, in offset binary, where all sums are of natural numbers: they rise by the step 2^scale
-- from one nibble to the next, and the nearest is worked out. Definitions only.
use Rattle.std.specs.Prelude.{ℕ, ◌+◌, ◌*◌, ◌-◌, ◌/◌, ◌<◌, ◌^◌, min, ◌≡◌, cond, leb, ℤ, pos, negsuc, nat_abs, ◌+ℤ◌, ◌*ℤ◌}
use Rattle.nearest.specs.Least.{least_of}

-- a sample in offset binary: -32768 to 32767 as 0 to 65535
unfoldable pub offset_binary : ℤ → ℕ
offset_binary (pos n) = n + 32768
offset_binary (negsuc n) = 32767 - n

-- how far two numbers are apart
abbrev pub apart_of : ℕ → ℕ → ℕ
apart_of a b = (a - b) + (b - a)

-- what a pair and the last two samples add to every nibble, floor((c × h0 + d × h1 + 1024) / 2048), counted from -2^21 up
unfoldable pub prediction_of : ℤ → ℤ → ℤ → ℤ → ℕ
prediction_of c d h0 h1 = nat_abs (c *ℤ h0 +ℤ d *ℤ h1 +ℤ pos (2 ^ 32 + 1024)) / 2048

-- the sum of rank × step and prediction that stands for the sample -32768: rank 8 is the nibble 0, and 2^21 the prediction 0
abbrev pub origin_of : ℕ → ℕ
origin_of p = 8 * p + (2 ^ 21 - 32768)

-- the sample of the nibble of rank r, with the step p = 2^scale; the clamp at -32768 is a subtraction that stops at 0
abbrev pub level_at : ℕ → ℕ → ℕ → ℕ
level_at p predicted r = min 65535 (r * p + predicted - origin_of p)

-- how far it is from t
abbrev pub away_at : ℕ → ℕ → ℕ → ℕ → ℕ
away_at p predicted t r = apart_of t (level_at p predicted r)

-- the first rank whose sample, unclamped, reaches t, by as many steps as it takes from rank 0, rounded up; 16 where none does
unfoldable pub reach_of : ℕ → ℕ → ℕ → ℕ
reach_of p predicted t = cond (leb (t + origin_of p) predicted) 0 (min 16 ((t + origin_of p - predicted + (p - 1)) / p))

-- the rank whose sample is nearest to t, the lowest of several, and that sample
pub record NearestRank (p predicted t rank level : ℕ) : Type 0 where
  pub rank_is : rank ≡ least_of (away_at p predicted t) 15
  pub level_is : level ≡ level_at p predicted rank
  pub few : rank < 16
