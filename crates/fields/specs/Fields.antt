-- Fields of a list of bytes, little-endian; sections of it; and the bytes of a number. Assumes nothing.
use Rattle.std.specs.Prelude.{Bool, cond, not, List, [], ◌∷◌, ℕ, zero, suc, ◌+◌, ◌*◌, ◌/◌, ◌%◌, leb, ltb, eqb, length, take, drop, get_or}

-- the number that the w bytes from o on are, the lowest first
unfoldable pub le : ℕ → List ℕ → ℕ → ℕ
le zero d o = 0
le (suc w) d o = get_or d o 0 + 256 * le w d (o + 1)

-- a field of w bytes, 0 where it reaches past the end
unfoldable pub field_at : ℕ → List ℕ → ℕ → ℕ
field_at w d o = cond (leb (o + w) (length d)) (le w d o) 0

-- a byte that is not 0
unfoldable pub flag_at : List ℕ → ℕ → Bool
flag_at d o = not (eqb (field_at 1 d o) 0)

-- the Rust's `i32.max(0)`, on the 32 bits
unfoldable pub positive : ℕ → ℕ
positive v = cond (ltb v 0x80000000) v 0

-- a part of the input, empty where it reaches past the end
unfoldable pub section_of : List ℕ → ℕ → ℕ → List ℕ
section_of s at n = cond (leb (at + n) (length s)) (take n (drop at s)) []

-- the input from a place on
unfoldable pub rest_of : List ℕ → ℕ → List ℕ
rest_of s at = drop at s

-- the w low bytes of v, the lowest first
unfoldable pub bytes_of : ℕ → ℕ → List ℕ
bytes_of zero v = []
bytes_of (suc w) v = v % 256 ∷ bytes_of w (v / 256)
