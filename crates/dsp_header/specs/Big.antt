-- Numbers of w bytes, the highest first. Definitions only.
use Rattle.std.specs.Prelude.{ℕ, zero, suc, ◌+◌, ◌*◌, ◌/◌, ◌%◌, List, [], ◌∷◌, ◌++◌, get_or}

-- the number that the w bytes from o on are
unfoldable pub big : ℕ → List ℕ → ℕ → ℕ
big zero d o = 0
big (suc w) d o = 256 * big w d o + get_or d (o + w) 0

-- the w low bytes of v
unfoldable pub big_bytes : ℕ → ℕ → List ℕ
big_bytes zero v = []
big_bytes (suc w) v = big_bytes w (v / 256) ++ (v % 256 ∷ [])
