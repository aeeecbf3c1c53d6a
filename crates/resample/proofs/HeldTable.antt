-- The fourth point by a table: whole numbers, and floats where the two roundings, infinities or zeros show. Assumes nothing.
use Rattle.std.proofs.Common.{◌≡◌, ◌-◌, ◌^◌, true, false, [], ◌∷◌, pos, negsuc, refl}
use lib.Ieee.{Float, nan, inf, fin, binary32, is_nan, lt, add, sub, mul, of_int, to_unsigned}
use Rattle.floats.specs.Defs.{zero32, one, min_of}
use Rattle.resample.specs.Defs.{half, five, pos_at, cubic, sample_from, sample_at, samples, points_of, fourth, resampled}

-- A float is an odd number times a power of two: 100 is 25 * 2^2.
abbrev hundred : Float
hundred = fin false 25 (pos 2)

abbrev two_hundred : Float
two_hundred = fin false 25 (pos 3)

abbrev two_fifty : Float
two_fifty = fin false 125 (pos 1)

-- after 100, 200, 250 comes 300
pub whole_numbers : fourth hundred two_hundred two_fifty ≡ fin false 75 (pos 2)
unfolding fourth sub mul
whole_numbers = refl

-- and half-way between the second and the third the output is 228.125
pub output_228 : resampled (hundred ∷ two_hundred ∷ two_fifty ∷ []) zero32 half 1 ≡ fin false 1825 (negsuc 2) ∷ []
unfolding resampled samples sample_at sample_from pos_at cubic points_of fourth min_of to_unsigned is_nan lt add sub mul of_int
output_228 = refl

-- with the third once more it would be 231.25
pub output_231 : cubic hundred two_hundred two_fifty two_fifty half ≡ fin false 925 (negsuc 1)
unfolding cubic add sub mul
output_231 = refl

-- after 1 and 2^24 comes 2^25: the product is exact, and the difference, 2^25 - 1, rounds
pub difference_rounds : fourth zero32 one (fin false 1 (pos 24)) ≡ fin false 1 (pos 25)
unfolding fourth sub mul
difference_rounds = refl

-- after 2 and 2^24 + 1, which is no float and becomes 2^24, comes 2^25 - 2, and not 2 (2^24 + 1) - 2, which is 2^25
pub third_rounds : fourth zero32 (of_int binary32 (pos 2)) (of_int binary32 (pos 16777217)) ≡ fin false 16777215 (pos 1)
unfolding fourth sub mul of_int
third_rounds = refl

-- after 5 and 2^26 comes 2^27 - 8; the third plus what it is above the second would be 2^27
pub product_first : fourth zero32 five (fin false 1 (pos 26)) ≡ fin false (2 ^ 24 - 1) (pos 3)
unfolding fourth sub mul
product_first = refl

pub difference_first : add binary32 (fin false 1 (pos 26)) (sub binary32 (fin false 1 (pos 26)) five) ≡ fin false 1 (pos 27)
unfolding add sub
difference_first = refl

-- after the largest float twice comes infinity, since twice that float is infinite
abbrev largest : Float
largest = fin false (2 ^ 24 - 1) (pos 104)

pub largest_twice : fourth zero32 largest largest ≡ inf false
unfolding fourth sub mul
largest_twice = refl

-- after infinity twice comes no number
pub infinity_twice : fourth zero32 (inf false) (inf false) ≡ nan
unfolding fourth sub mul
infinity_twice = refl

-- after -0 twice comes +0
pub minus_zero_twice : fourth zero32 (fin true 0 (pos 0)) (fin true 0 (pos 0)) ≡ zero32
unfolding fourth sub mul
minus_zero_twice = refl
