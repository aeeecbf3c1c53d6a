-- What the resampler gives, in Rust's order of operations. Definitions only.
use Rattle.std.specs.Prelude.{ℕ, zero, suc, ◌+◌, ◌-◌, min, false, cond, List, [], ◌∷◌, ◌++◌, length, get_or, pos, negsuc, nat_lt, slice_index_or, Float}
use Rattle.std.specs.Float.{nan, fin, binary32}
use Rattle.std.specs.Float.Ieee.{add, sub, mul, of_int, to_unsigned}
use Rattle.floats.specs.Defs.{one, floor_of, min_of}

abbrev pub half : Float
half = fin false 1 (negsuc 0)

abbrev pub two : Float
two = fin false 1 (pos 1)

abbrev pub three : Float
three = fin false 3 (pos 0)

abbrev pub four : Float
four = fin false 1 (pos 2)

abbrev pub five : Float
five = fin false 5 (pos 0)

-- the place of output k in the input: fraction + ratio * k
unfoldable pub pos_at : Float → Float → ℕ → Float
pos_at fraction ratio k = add binary32 fraction (mul binary32 ratio (of_int binary32 (pos k)))

-- Rust's `needed`: (fraction + ratio * count) as usize
unfoldable pub needed_of : Float → Float → ℕ → ℕ
unfolding pos_at
needed_of fraction ratio count = to_unsigned 64 (pos_at fraction ratio count)

-- the next fraction: end - end.floor(), where end is the place after the last output
unfoldable pub next_of : Float → Float → ℕ → Float
unfolding pos_at floor_of
next_of fraction ratio count = sub binary32 (pos_at fraction ratio count) (floor_of (pos_at fraction ratio count))

-- the cubic through p1 and p2 at t:
-- p1 + 0.5 * t * (p2 - p0 + t * (2.0 * p0 - 5.0 * p1 + 4.0 * p2 - p3 + t * (3.0 * (p1 - p2) + p3 - p0)))
unfoldable pub cubic : Float → Float → Float → Float → Float → Float
cubic p0 p1 p2 p3 t =
    add binary32 p1
    (mul binary32 (mul binary32 half t)
    (add binary32 (sub binary32 p2 p0)
    (mul binary32 t
    (add binary32
    (sub binary32 (add binary32 (sub binary32 (mul binary32 two p0) (mul binary32 five p1)) (mul binary32 four p2)) p3)
    (mul binary32 t (sub binary32 (add binary32 (mul binary32 three (sub binary32 p1 p2)) p3) p0))))))

-- the output at a place, from the four neighbours that start at i
unfoldable pub sample_from : List Float → Float → ℕ → Float
unfolding cubic min_of
sample_from points place i =
    cubic (slice_index_or points i nan) (slice_index_or points (i + 1) nan) (slice_index_or points (i + 2) nan) (slice_index_or points (i + 3) nan)
    (min_of (sub binary32 place (of_int binary32 (pos i))) one)

-- where the four neighbours start: at the place's whole part, or where the last four start
abbrev pub index_at : List Float → Float → ℕ
index_at points place = min (to_unsigned 64 place) (length points - 4)

-- output k
unfoldable pub sample_at : List Float → Float → Float → ℕ → Float
unfolding pos_at sample_from
sample_at points ratio fraction k = sample_from points (pos_at fraction ratio k) (index_at points (pos_at fraction ratio k))

-- the first n outputs from at least four points
unfoldable pub samples : List Float → Float → Float → ℕ → List Float
unfolding sample_at
samples points ratio fraction zero = []
samples points ratio fraction (suc n) = samples points ratio fraction n ++ (sample_at points ratio fraction n ∷ [])

-- The point after three that have no fourth, where the Rust reads past its input: one step on along the line through the second and the
-- third, 2 * third - second, the product first. This choice stands here alone.
unfoldable pub fourth : Float → Float → Float → Float
fourth a b c = sub binary32 (mul binary32 two c) b

abbrev pub with_fourth : List Float → List Float
with_fourth input =
    let a = get_or input 0 nan in
    let b = get_or input 1 nan in
    let c = get_or input 2 nan in
    a ∷ b ∷ c ∷ fourth a b c ∷ []

-- three samples get their fourth point; more stay as they are
unfoldable pub points_of : List Float → List Float
unfolding fourth
points_of input = cond (nat_lt (length input) 4) (with_fourth input) input

-- Rust's `resample`: the first n outputs
unfoldable pub resampled : List Float → Float → Float → ℕ → List Float
unfolding samples points_of
resampled input ratio fraction n = samples (points_of input) ratio fraction n
