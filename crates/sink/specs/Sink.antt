-- The frames that a device sink makes of the mix buffers. Definitions only.
use Rattle.std.specs.Prelude.{◌≡◌, Bool, true, false, cond, ◌&&◌, ◌||◌, List, [], ◌∷◌, ◌++◌, ℕ, zero, suc, ◌+◌, ◌*◌, ◌≤◌, ◌<◌, leb, ltb, eqb, negsuc, length, take, get_or, Float, Option, None, Some}
use Rattle.std.specs.Float.{nan, fin, binary32}
use Rattle.std.specs.Float.Ieee.{le, is_nan, add, mul, round}
use Rattle.floats.specs.Defs.{zero32, one, minus_one, clamp_of}
use Rattle.rows.specs.Rows.{part}

-- n samples of silence
pub record Silent (n : ℕ) (xs : List Float) : Type 0 where
  pub size : n ≤ length xs
  pub zeros : (i : ℕ) → i < n → get_or xs i nan ≡ zero32

-- row b of the mix buffers, or as much of the row of silence
unfoldable pub row_or : List Float → List Float → ℕ → ℕ → List Float
row_or buffers silent b n = cond (leb (b * n + n) (length buffers)) (part n (b * n) buffers) (take n silent)

-- sample i of row b of the mix buffers; 0 where there is no such row
unfoldable pub sample_of : List Float → ℕ → ℕ → ℕ → Float
sample_of buffers n b i = cond (leb (b * n + n) (length buffers)) (get_or buffers (b * n + i) nan) zero32

-- a sample as a frame has it: over 32768, in [-1, 1], and a NaN stays
unfoldable pub to_unit : Float → Float
to_unit s = clamp_of minus_one one (mul binary32 s (fin false 1 (negsuc 14)))

-- n frames of a left and a right sample each
unfoldable pub frames : (ℕ → Float) → (ℕ → Float) → ℕ → List Float
frames l r zero = []
frames l r (suc n) = frames l r n ++ (to_unit (l n) ∷ to_unit (r n) ∷ [])

-- the float nearest to a / 1000
abbrev thousandths : ℕ → Float
thousandths a = round binary32 false a 1000

-- the default factors are 1, 0.707, 0.251 and 0.707
unfoldable pub factors_of : Option (List Float) → List Float
factors_of None = one ∷ thousandths 707 ∷ thousandths 251 ∷ thousandths 707 ∷ []
factors_of (Some k) = k

-- one side of six, by the factors k: front * k[0] + (centre * k[1] + low * k[2]) + back * k[3]
unfoldable pub side : List Float → Float → Float → Float → Float → Float
side k front centre low back =
    let common = add binary32 (mul binary32 centre (get_or k 1 nan)) (mul binary32 low (get_or k 2 nan)) in
    add binary32 (add binary32 (mul binary32 front (get_or k 0 nan)) common) (mul binary32 back (get_or k 3 nan))

-- sample i of the left and of the right, for a sink with `count` inputs, of which `ch k` is the k-th
unfoldable pub left_of : Option (List Float) → ℕ → (ℕ → ℕ → Float) → ℕ → Float
left_of downmix count ch i =
    cond (eqb count 0) zero32
    (cond (ltb count 6) (ch 0 i)
    (side (factors_of downmix) (ch 0 i) (ch 2 i) (ch 3 i) (ch 4 i)))

unfoldable pub right_of : Option (List Float) → ℕ → (ℕ → ℕ → Float) → ℕ → Float
right_of downmix count ch i =
    cond (eqb count 0) zero32
    (cond (eqb count 1) (ch 0 i)
    (cond (ltb count 6) (ch 1 i)
    (side (factors_of downmix) (ch 1 i) (ch 2 i) (ch 3 i) (ch 5 i))))

-- input k of the sink: row offset + inputs[k] of the mix buffers
unfoldable pub input_of : List Float → ℕ → ℕ → List ℕ → ℕ → ℕ → Float
input_of buffers n offset inputs k i = sample_of buffers n (offset + get_or inputs k 0) i

-- `write_sink`
unfoldable pub sink_of : List Float → ℕ → ℕ → List ℕ → ℕ → Option (List Float) → List Float
sink_of buffers n offset inputs count downmix =
    frames (left_of downmix count (input_of buffers n offset inputs)) (right_of downmix count (input_of buffers n offset inputs)) n

-- each sample is in [-1, 1], or a NaN
abbrev pub in_range : Float → Bool
in_range x = is_nan x || (le minus_one x && le x one)

abbrev pub each : List Float → Bool
each [] = true
each (x ∷ xs) = in_range x && each xs
