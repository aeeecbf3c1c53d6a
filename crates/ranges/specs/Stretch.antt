-- A stretch: where in the slice an address lies, and how many bytes its range has from there on.
use Rattle.std.specs.Prelude.{ℕ, ◌+◌, ◌-◌, ◌%◌, ◌^◌, cond, Option, Some, None, List, [], ◌∷◌}
use Rattle.ranges.specs.declared.Stretch.{Stretch}
use Rattle.ranges.specs.Ranges.{Range, holds, has, room_in}

abbrev pub stretch : ℕ → ℕ → Stretch
stretch at room = record { at = at; room = room }

-- of the first range that has the address
unfoldable pub stretch_of : List Range → ℕ → Option Stretch
unfolding holds
stretch_of [] x = None
stretch_of (r ∷ rs) x = cond (has r x) (Some (stretch ((r.start + (x - r.base)) % 2 ^ 64) (room_in r x))) (stretch_of rs x)
