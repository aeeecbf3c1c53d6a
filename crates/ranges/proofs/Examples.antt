-- Ranges, computed: which reads succeed, where an address lies in the slice, and the answers to questions 13 and 5. Assumes nothing.
use Rattle.std.proofs.Common.{◌≡◌, ℕ, ◌+◌, ◌-◌, ◌^◌, ◌<◌, true, false, leb, Some, None, List, [], ◌∷◌, replicate, refl, arith}
use mathlib.Core.Bool.{and-false}
use borrow.Author.Tests.{lt-leb}
use Rattle.ranges.specs.Ranges.{Range, range, ranges_of, holds, next_at, next_left, left_of, readable_of}
use Rattle.ranges.specs.Stretch.{stretch, stretch_of}
use Rattle.ranges.specs.Questions.{follows, follow, laid_of, near_of}

-- ---- ranges as numbers: base, start and size of each

-- two that touch, and lie apart in the slice: 100 .. 103 are its bytes 0 .. 3, and 104 .. 107 its bytes 8 .. 11
abbrev pub touching : List ℕ
touching = 100 ∷ 0 ∷ 4 ∷ 104 ∷ 8 ∷ 4 ∷ []

-- with an empty range between them
abbrev pub around_none : List ℕ
around_none = 100 ∷ 0 ∷ 4 ∷ 104 ∷ 6 ∷ 0 ∷ 104 ∷ 8 ∷ 4 ∷ []

-- with a gap of one byte, that at 104
abbrev pub apart : List ℕ
apart = 100 ∷ 0 ∷ 4 ∷ 105 ∷ 8 ∷ 4 ∷ []

-- the second begins one below the end of the first
abbrev below : List ℕ
below = 100 ∷ 0 ∷ 4 ∷ 103 ∷ 8 ∷ 4 ∷ []

-- ---- which reads succeed

-- across: where the ranges touch, around an empty one, not over a gap, and up to it
across : (readable_of (ranges_of touching) 102 4 ≡ true)
    × (readable_of (ranges_of around_none) 102 4 ≡ true)
    × (readable_of (ranges_of apart) 102 4 ≡ false)
    × (readable_of (ranges_of apart) 102 2 ≡ true)
unfolding ranges_of readable_of left_of next_at next_left holds
across = (refl, refl, refl, refl)

-- a read of 0 bytes: below, in the gap, past the end, and where there is no range
of_none : (readable_of (ranges_of apart) 99 0 ≡ true)
    × (readable_of (ranges_of apart) 104 0 ≡ true)
    × (readable_of (ranges_of apart) 0xffffffffffffffff 0 ≡ true)
    × (readable_of [] 0 0 ≡ true)
unfolding ranges_of readable_of left_of next_at next_left holds
of_none = (refl, refl, refl, refl)

-- ---- where an address lies in the slice, and how many bytes its range has from there on

stretches : (stretch_of (ranges_of touching) 102 ≡ Some (stretch 2 2))
    × (stretch_of (ranges_of touching) 104 ≡ Some (stretch 8 4))
    × (stretch_of (ranges_of around_none) 104 ≡ Some (stretch 8 4))
    × (stretch_of (ranges_of apart) 104 ≡ None)
unfolding ranges_of stretch_of holds
stretches = (refl, refl, refl, refl)

-- ---- question 13

-- 16 ranges and 17, of no byte each
how_many : (laid_of 0 (replicate 16 (range 0 0 0)) ≡ true) × (laid_of 0 (replicate 17 (range 0 0 0)) ≡ false)
unfolding laid_of follow follows
how_many = (refl, refl)

-- a part that ends at the slice's end and one byte outside, an empty range between, and a base one below the end of the range before
each_follows : (laid_of 12 (ranges_of touching) ≡ true)
    × (laid_of 11 (ranges_of touching) ≡ false)
    × (laid_of 12 (ranges_of around_none) ≡ true)
    × (laid_of 12 (ranges_of below) ≡ false)
unfolding ranges_of laid_of follow follows
each_follows = (refl, refl, refl, refl)

-- a range that ends past 2^64 is followed by none: no address is at or after its end
past_the_end : (r : Range) (n : ℕ) → r.base < 2 ^ 64 → laid_of n (range (2 ^ 64 - 1) 0 2 ∷ r ∷ []) ≡ false
unfolding laid_of follow follows
past_the_end r n h = rw (lt-leb (2 ^ 64 - 1 + 2) r.base (omega arith)) (and-false (leb 2 n))

-- ---- question 5, where the second range alone is in question: it ends at 2^63, and one past it

second_near : (near_of (range 0 0 4 ∷ range (2 ^ 63 - 4) 4 4 ∷ []) ≡ true) × (near_of (range 0 0 4 ∷ range (2 ^ 63 - 3) 4 4 ∷ []) ≡ false)
unfolding near_of
second_near = (refl, refl)
