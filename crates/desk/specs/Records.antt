-- Fields of a record, as the updates read them. Definitions only.
use Rattle.std.specs.Prelude.{Bool, true, false, List, ℕ, ◌+◌, ◌*◌, Float}
use Rattle.std.specs.Float.Ieee.{of_bits}
use Rattle.std.specs.Float.{binary32}
use Rattle.fields.specs.Fields.{field_at}

-- the float at o + 4 j of a record
unfoldable pub float_at : List ℕ → ℕ → ℕ → Float
float_at p o j = of_bits binary32 (field_at 4 p (o + j * 4))

-- a flag as a word
abbrev pub word_of : Bool → ℕ
word_of true = 1
word_of false = 0
