-- Reads of sample memory in ranges, computed: which bytes each gives. Assumes nothing.
use Prim.Native.Nat.{ℕ}
use mathlib.Core.Bool.{true}
use mathlib.Core.List.{List, [], ◌∷◌}
use mathlib.Core.Path.{◌≡◌, refl}
use Rattle.ranges.specs.Ranges.{ranges_of, holds, next_at, next_left, left_of, readable_of}
use Rattle.ranges.proofs.Examples.{touching, around_none, apart}
use Rattle.memory.specs.Memory.{piece_of, bytes_of, read_of, byte_of}

-- twelve bytes, from which a byte's place is told
abbrev bytes : List ℕ
bytes = 10 ∷ 11 ∷ 12 ∷ 13 ∷ 14 ∷ 15 ∷ 16 ∷ 17 ∷ 18 ∷ 19 ∷ 20 ∷ 21 ∷ []

-- four bytes at 102: over two ranges that touch, with an empty one between them, and none over a gap of one byte, but up to it
across : (read_of (ranges_of touching) bytes 102 4 ≡ 12 ∷ 13 ∷ 18 ∷ 19 ∷ [])
    × (read_of (ranges_of around_none) bytes 102 4 ≡ 12 ∷ 13 ∷ 18 ∷ 19 ∷ [])
    × (read_of (ranges_of apart) bytes 102 4 ≡ [])
    × (read_of (ranges_of apart) bytes 102 2 ≡ 12 ∷ 13 ∷ [])
unfolding ranges_of readable_of left_of next_at next_left holds read_of bytes_of piece_of
across = (refl, refl, refl, refl)

-- no bytes in the gap: the read succeeds, and gives none
of_none : (readable_of (ranges_of apart) 104 0 ≡ true) × (read_of (ranges_of apart) bytes 104 0 ≡ [])
unfolding ranges_of readable_of left_of next_at next_left holds read_of bytes_of piece_of
of_none = (refl, refl)

-- parts that overlap: addresses 102, 103 and 200, 201 show the same two bytes
abbrev overlapping : List ℕ
overlapping = 100 ∷ 0 ∷ 4 ∷ 200 ∷ 2 ∷ 4 ∷ []

shown_twice : (read_of (ranges_of overlapping) bytes 102 2 ≡ 12 ∷ 13 ∷ [])
    × (read_of (ranges_of overlapping) bytes 200 2 ≡ 12 ∷ 13 ∷ [])
    × (byte_of (ranges_of overlapping) bytes 102 ≡ byte_of (ranges_of overlapping) bytes 200)
unfolding ranges_of readable_of left_of next_at next_left holds read_of bytes_of piece_of byte_of
shown_twice = (refl, refl, refl)
