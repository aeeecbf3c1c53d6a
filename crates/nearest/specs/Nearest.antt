-- The nibble whose decoded sample is nearest, the lowest signed one of several. Definitions only.
use Rattle.std.specs.Prelude.{ℕ, ◌+◌, ◌%◌, ◌≤◌, ◌≡◌, ℤ, nat_abs, ◌-ℤ◌}
use Rattle.adpcm.specs.Step.{step_of}
use Rattle.nearest.specs.Least.{least_of}

-- how far two samples are apart
unfoldable pub difference_of : ℤ → ℤ → ℕ
difference_of a b = nat_abs (a -ℤ b)

-- the nibble of rank r: rank 0 is the lowest signed one, -8, and rank 15 the highest, 7
abbrev pub nibble_at : ℕ → ℕ
nibble_at r = (r + 8) % 16

-- how far the sample of the nibble of rank r is from t: scale s, pair c, d, last two samples h0, h1
unfoldable pub difference_at : ℤ → ℕ → ℤ → ℤ → ℤ → ℤ → ℕ → ℕ
unfolding difference_of
difference_at t s c d h0 h1 r = difference_of t (step_of (nibble_at r) s c d h0 h1)

-- of the sixteen nibbles, the one whose sample is nearest to t, by the decoder's own step
unfoldable pub nearest_of : ℤ → ℕ → ℤ → ℤ → ℤ → ℤ → ℕ
unfolding difference_at least_of
nearest_of t s c d h0 h1 = nibble_at (least_of (difference_at t s c d h0 h1) 15)

-- what is chosen for a sample t: the nearest nibble, the sample that it decodes to, and how far that is off
pub record Chosen (t : ℤ) (s : ℕ) (c d h0 h1 : ℤ) (nibble : ℕ) (sample : ℤ) (difference : ℕ) : Type 0 where
  pub nibble_is : nibble ≡ nearest_of t s c d h0 h1
  pub sample_is : sample ≡ step_of (nearest_of t s c d h0 h1) s c d h0 h1
  pub difference_is : difference ≡ difference_of t (step_of (nearest_of t s c d h0 h1) s c d h0 h1)
  pub small : difference ≤ 65535
