-- One frame tried with one header: the nibbles in turn, what they decode to, and the sum of squared differences; and the header that is
-- kept. Definitions only.
use Rattle.std.specs.Prelude.{ℕ, ◌+◌, ◌*◌, ◌%◌, ℤ, pos, get_or}
use mathlib.Core.List.{List, [], ◌∷◌}
use Rattle.adpcm.specs.Step.{step_of}
use Rattle.adpcm.specs.Decode.{pair_of}
use Rattle.nearest.specs.Least.{least_of}
use Rattle.nearest.specs.Nearest.{difference_of, nearest_of}

-- the samples of a frame; the last may have fewer
abbrev pub frame_samples : ℕ
frame_samples = 14

-- the largest square of a difference, and the largest sum of a frame's
abbrev pub most_square : ℕ
most_square = 65535 * 65535

abbrev pub most_error : ℕ
most_error = frame_samples * most_square

-- the sum of squared differences of two lists, sample by sample
unfoldable pub squared_error : List ℤ → List ℤ → ℕ
unfolding difference_of
squared_error [] ys = 0
squared_error (t ∷ ts) [] = 0
squared_error (t ∷ ts) (y ∷ ys) = difference_of t y * difference_of t y + squared_error ts ys

-- scale s, pair c, d; the last two samples h0, h1 go on with what was decoded, not with what was given
module _ (s : ℕ) (c d : ℤ) where
  -- the nearest sample to t that a nibble decodes to
  unfoldable pub nearest_sample : ℤ → ℤ → ℤ → ℤ
  unfolding nearest_of
  nearest_sample t h0 h1 = step_of (nearest_of t s c d h0 h1) s c d h0 h1

  -- the nibbles for the samples ts
  unfoldable pub nibbles_of : List ℤ → ℤ → ℤ → List ℕ
  unfolding nearest_sample
  nibbles_of [] h0 h1 = []
  nibbles_of (t ∷ ts) h0 h1 = nearest_of t s c d h0 h1 ∷ nibbles_of ts (nearest_sample t h0 h1) h0

  -- the samples that they decode to, as the encoder predicts
  unfoldable pub reconstructed_of : List ℤ → ℤ → ℤ → List ℤ
  unfolding nearest_sample
  reconstructed_of [] h0 h1 = []
  reconstructed_of (t ∷ ts) h0 h1 = nearest_sample t h0 h1 ∷ reconstructed_of ts (nearest_sample t h0 h1) h0

  -- the sum for the samples ts
  abbrev pub sum_of : List ℤ → ℤ → ℤ → ℕ
  sum_of ts h0 h1 = squared_error ts (reconstructed_of ts h0 h1)

-- k has the eight pairs of coefficients; a header is predictor × 16 + scale
module _ (k : List ℤ) where
  -- the two coefficients that the header b picks: for the last sample, and for the one before it
  abbrev pub pair_first : ℕ → ℤ
  pair_first b = get_or k (pair_of b) (pos 0)

  abbrev pub pair_second : ℕ → ℤ
  pair_second b = get_or k (pair_of b + 1) (pos 0)

  -- the sum for the samples ts with the header b
  unfoldable pub error_of : List ℤ → ℤ → ℤ → ℕ → ℕ
  unfolding squared_error reconstructed_of
  error_of ts h0 h1 b = sum_of (b % 16) (pair_first b) (pair_second b) ts h0 h1

  -- of the 128 headers the first with the least sum
  unfoldable pub kept_of : List ℤ → ℤ → ℤ → ℕ
  unfolding error_of least_of
  kept_of ts h0 h1 = least_of (error_of ts h0 h1) 127
