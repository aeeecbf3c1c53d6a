-- A session with song sections in it: after the open any list of items, each a single call, or so many renders in one call. The first gets
-- the state that the open made, each later one what the item before it left. Definitions only.
use Rattle.std.specs.Prelude.{cond, List, [], ◌∷◌, ◌++◌, ℕ, zero, suc, ◌*◌, eqb, Float, length, take}
use Rattle.ranges.specs.Ranges.{Range}
use Rattle.state.specs.State.{State}
use Rattle.calls.specs.Sections.{wide_in, section_call}
use Rattle.secrecy.specs.Sessions.{Call, update, Shape, shape, after, Said, said, frames_by}

-- ---- items

pub data Item : Type 0 where
  single : Call → Item
  -- how many renders, the ranges of sample memory and the slice of bytes that they are parts of, and the frame slice as it is lent
  section : ℕ → List Range → List ℕ → List Float → Item

-- an item without its sample bytes, and without what its reply or frame slice holds
pub data ItemShape : Type 0 where
  of_single : Shape → ItemShape
  of_section : ℕ → List Range → ℕ → ℕ → ItemShape

abbrev pub item_shape : Item → ItemShape
item_shape (single c) = of_single (shape c)
item_shape (section count rs m frames) = of_section count rs (length m) (length frames)

-- ---- what is left of an item, and what is seen of it

abbrev pub after_item : State → Item → State
after_item st (single c) = after st c
after_item st (section count rs m frames) = (section_call st count rs m frames).state

-- of a section the number and the rounds of all its renders
abbrev pub said_item : State → Item → Said
said_item st (single c) = said st c
said_item st (section count rs m frames) =
    let o = section_call st count rs m frames in
    record { number = o.number; size = 0; reply = []; rounds = o.rounds }

-- the 2 * samples floats of each render of a section that succeeds
abbrev pub frames_item : State → Item → List Float
frames_item st (single c) = frames_by st c
frames_item st (section count rs m frames) =
    let o = section_call st count rs m frames in
    cond (eqb o.number 0) (take (count * wide_in st) o.frames) []

-- ---- a list of items, from a state

abbrev pub item_at : List Item → ℕ → Item
item_at [] r = single (update 0 [] [])
item_at (x ∷ xs) zero = x
item_at (x ∷ xs) (suc r) = item_at xs r

abbrev pub state_at_item : State → List Item → ℕ → State
state_at_item st [] r = st
state_at_item st (x ∷ xs) zero = st
state_at_item st (x ∷ xs) (suc r) = state_at_item (after_item st x) xs r

abbrev pub said_items : State → List Item → List Said
said_items st [] = []
said_items st (x ∷ xs) = said_item st x ∷ said_items (after_item st x) xs

abbrev pub frames_at_item : State → List Item → ℕ → List Float
frames_at_item st [] r = []
frames_at_item st (x ∷ xs) zero = frames_item st x
frames_at_item st (x ∷ xs) (suc r) = frames_at_item (after_item st x) xs r

-- the frames of all items, one behind the other
abbrev pub frames_items : State → List Item → List Float
frames_items st [] = []
frames_items st (x ∷ xs) = frames_item st x ++ frames_items (after_item st x) xs
