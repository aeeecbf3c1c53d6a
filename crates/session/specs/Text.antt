-- Text that is written into a lent slice, and numbers as digits. Definitions only.
use Rattle.std.specs.Prelude.{cond, List, [], ◌∷◌, ◌++◌, ℕ, zero, suc, ◌+◌, ◌/◌, ◌%◌, ltb, length}
use Rattle.rows.specs.Rows.{put}

-- ---- a slice with what is written at its front, and where that ends

pub record Text : Type 0 where
  pub bytes : List ℕ
  pub end : ℕ

abbrev pub text : List ℕ → ℕ → Text
text s n = record { bytes = s; end = n }

-- the same with l behind what is written
unfoldable pub append : Text → List ℕ → Text
unfolding put
append t l = text (put t.bytes t.end l) (t.end + length l)

-- ---- digits

-- the ASCII code of a digit below 16, in lower case
abbrev pub digit_of : ℕ → ℕ
digit_of d = cond (ltb d 10) (48 + d) (87 + d)

-- the last k digits of n in base b, the highest first
unfoldable pub digits_of : ℕ → ℕ → ℕ → List ℕ
digits_of b zero n = []
digits_of b (suc k) n = digits_of b k (n / b) ++ (digit_of (n % b) ∷ [])

-- k hexadecimal digits
unfoldable pub hex_of : ℕ → ℕ → List ℕ
unfolding digits_of
hex_of k n = digits_of 16 k n

-- how many decimal digits a number below 100,000 has
unfoldable pub places_of : ℕ → ℕ
places_of n = cond (ltb n 10) 1 (cond (ltb n 100) 2 (cond (ltb n 1000) 3 (cond (ltb n 10000) 4 5)))

unfoldable pub decimal_of : ℕ → List ℕ
unfolding digits_of places_of
decimal_of n = digits_of 10 (places_of n) n
