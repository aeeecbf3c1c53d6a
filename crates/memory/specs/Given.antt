-- What one range has given of a read into a list that is as long as what is left of the read: n bytes in front, the rest as before.
use Rattle.std.specs.Prelude.{ℕ, List, ◌++◌, ◌≡◌, length, drop}
use Rattle.ranges.specs.Ranges.{Range}
use Rattle.memory.specs.Memory.{piece_of}

pub record Given (r : Range) (m : List ℕ) (at : ℕ) (before : List ℕ) (n : ℕ) (out : List ℕ) : Type 0 where
  pub count : n ≡ length (piece_of r m at (length before))
  pub made : out ≡ piece_of r m at (length before) ++ drop n before
