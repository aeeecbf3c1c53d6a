-- The parts of a shape. Definitions only.
use Rattle.std.specs.Prelude.{Bool, true, false, List, [], ℕ}
use Rattle.ranges.specs.Ranges.{Range}
use Rattle.secrecy.specs.Sessions.{Shape, updates, renders}

-- whether it is an update's
unfoldable pub is_update : Shape → Bool
is_update (updates expected input size) = true
is_update (renders rs size wide) = false

-- of an update: the expected size, and the input
unfoldable pub expected_of : Shape → ℕ
expected_of (updates expected input size) = expected
expected_of (renders rs size wide) = 0

unfoldable pub input_of : Shape → List ℕ
input_of (updates expected input size) = input
input_of (renders rs size wide) = []

-- of a render: the ranges, and the length of the slice that they are parts of
unfoldable pub ranges_in : Shape → List Range
ranges_in (updates expected input size) = []
ranges_in (renders rs size wide) = rs

unfoldable pub memory_of : Shape → ℕ
memory_of (updates expected input size) = 0
memory_of (renders rs size wide) = size

-- of both: the length of the slice that is lent for the reply or the frames
unfoldable pub length_of : Shape → ℕ
length_of (updates expected input size) = size
length_of (renders rs size wide) = wide
