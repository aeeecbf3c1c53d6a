-- The questions of a render's ranges, computed: 13 and 5 at their limits, and in their sequence with 4 and 7. Assumes nothing.
use mathlib.Core.Path.{◌≡◌, refl}
use mathlib.Core.List.{List, [], ◌∷◌}
use Prim.Native.Nat.{ℕ, zero, suc, ◌+◌, ◌-◌, ◌^◌}
use lib.ListN.{replicate}
use Rattle.floats.specs.Defs.{zero32}
use Rattle.ranges.specs.Ranges.{Range, range}
use Rattle.state.specs.State.{State}
use Rattle.calls.specs.Calls.{render_call}
use Rattle.secrecy.specs.Computing.{computing}
use Rattle.secrecy.specs.Inputs.{revision, slices, slices_for, start, start_for, base}

-- the number that a render answers: of a state, ranges over a slice of n bytes, and a frame slice of so many floats
abbrev pub number_of : State → List Range → ℕ → ℕ → ℕ
number_of st rs n floats = (render_call st rs (replicate n 0) (replicate floats zero32)).number

-- of a whole state, a slice of 13 bytes, and room for the frames
abbrev pub number : List Range → ℕ
number rs = number_of (start (revision 2)) rs 13 4

-- k ranges of one byte, one behind the other, that all are the slice's first
unfoldable pub ones : ℕ → ℕ → List Range
ones at zero = []
ones at (suc k) = range at 0 1 ∷ ones (at + 1) k

-- ---- question 13

-- no range, 16 and 17
pub count : (number [] ≡ 0) × (number (ones base 16) ≡ 0) × (number (ones base 17) ≡ 13)
unfolding computing start_for ones
count = (refl, refl, refl)

-- a part that ends with the slice, and one that ends a byte behind it; an empty one there; one whose start and size go round at 2 ^ 64
pub part : (number (range base 5 8 ∷ []) ≡ 0)
    × (number (range base 5 9 ∷ []) ≡ 13)
    × (number (range base 13 0 ∷ []) ≡ 0)
    × (number (range base 14 0 ∷ []) ≡ 13)
    × (number (range base (2 ^ 64 - 1) 2 ∷ []) ≡ 13)
unfolding computing start_for
part = (refl, refl, refl, refl, refl)

-- the same of the second of two
pub second_part : (number (range base 0 8 ∷ range (base + 8) 5 8 ∷ []) ≡ 0) × (number (range base 0 8 ∷ range (base + 8) 5 9 ∷ []) ≡ 13)
unfolding computing start_for
second_part = (refl, refl)

-- ranges that touch, that overlap by an address, and that descend; one that goes round at 2 ^ 64, and one that begins behind its end there
pub bases : (number (range base 0 8 ∷ range (base + 8) 0 5 ∷ []) ≡ 0)
    × (number (range base 0 8 ∷ range (base + 7) 0 5 ∷ []) ≡ 13)
    × (number (range (base + 8) 0 5 ∷ range base 0 8 ∷ []) ≡ 13)
    × (number (range (2 ^ 64 - 1) 0 2 ∷ range 1 0 1 ∷ []) ≡ 13)
unfolding computing start_for
bases = (refl, refl, refl, refl)

-- ---- question 5: a range that ends at 2 ^ 63, and one that ends behind it; the same of the second of two

pub far : (number (range (2 ^ 63 - 8) 0 8 ∷ []) ≡ 0)
    × (number (range (2 ^ 63 - 7) 0 8 ∷ []) ≡ 5)
    × (number (range base 0 8 ∷ range (2 ^ 63 - 8) 0 8 ∷ []) ≡ 0)
    × (number (range base 0 8 ∷ range (2 ^ 63 - 7) 0 8 ∷ []) ≡ 5)
unfolding computing start_for
far = (refl, refl, refl, refl)

-- ---- the sequence

-- ranges that overlap, the second of which is far
abbrev pub wrong : List Range
wrong = range (2 ^ 63 - 8) 0 8 ∷ range (2 ^ 63 - 7) 0 8 ∷ []

-- 4 before 13, 13 before 5, 5 before 7, and 7: in each all of the later ones would be answered "no" too
pub sequence : (number_of slices wrong 13 3 ≡ 4)
    × (number_of (start (revision 2)) wrong 13 3 ≡ 13)
    × (number_of (start (revision 2)) (range (2 ^ 63 - 7) 0 8 ∷ []) 13 3 ≡ 5)
    × (number_of (start (revision 2)) (range base 0 8 ∷ []) 13 3 ≡ 7)
unfolding computing slices_for start_for
sequence = (refl, refl, refl, refl)
