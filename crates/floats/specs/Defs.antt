-- What the functions on floats give. Definitions only.
use Rattle.std.specs.Prelude.{suc, ◌*◌, ◌/◌, ◌%◌, true, false, cond, pos, ◌==◌, is_nan, Float}
use Rattle.std.specs.Float.{nan, inf, fin, binary32}
use Rattle.std.specs.Float.Ieee.{up, down, lt, round}
use Rattle.std.specs.Float.Ieee.Scale.{finite}

abbrev pub zero32 : Float
zero32 = fin false 0 (pos 0)

abbrev pub one : Float
one = fin false 1 (pos 0)

abbrev pub minus_one : Float
minus_one = fin true 1 (pos 0)

abbrev pub sixteen : Float
sixteen = fin false 1 (pos 4)

-- Rust's `x.floor()`: a whole number, an infinity and a NaN stay; else the whole number below
unfoldable pub floor_of : Float → Float
floor_of nan = nan
floor_of (inf s) = inf s
floor_of (fin s m e) =
    cond (m * up e % down e == 0) (fin s m e)
    (cond s (round binary32 true (suc (m * up e / down e)) 1) (round binary32 false (m * up e / down e) 1))

-- Rust's `a.min(b)`: of a NaN and another, the other; of two equal zeros, a
unfoldable pub min_of : Float → Float → Float
min_of a b = cond (is_nan a) b (cond (lt b a) b a)

-- Rust's `x.clamp(low, high)`: a NaN stays
unfoldable pub clamp_of : Float → Float → Float → Float
clamp_of low high x = cond (lt x low) low (cond (lt high x) high x)

-- Rust's `if x.is_finite() { x.clamp(0.0, 16.0) } else { 0.0 }`
unfoldable pub ratio_of : Float → Float
unfolding clamp_of
ratio_of x = cond (finite x) (clamp_of zero32 sixteen x) zero32
