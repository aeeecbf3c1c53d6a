-- The single calls that a list of items stands for. Definitions only.
use Rattle.std.specs.Prelude.{cond, List, [], ◌∷◌, ◌++◌, ℕ, zero, suc, ◌+◌, eqb, Float, length, drop}
use Rattle.ranges.specs.Ranges.{Range}
use Rattle.state.specs.State.{State}
use Rattle.calls.specs.Sections.{wide_in}
use Rattle.secrecy.specs.Sessions.{Call, render, after, Said, frames_by}
use Rattle.secrecy_items.specs.Items.{Item, single, section, said_item, after_item}

-- so many renders of the same ranges and memory, each lent the slice from `wide` floats further on than the one before it
abbrev pub renders_from : ℕ → ℕ → List Range → List ℕ → List Float → List Call
renders_from zero wide rs m frames = []
renders_from (suc k) wide rs m frames = render rs m frames ∷ renders_from k wide rs m (drop wide frames)

-- the calls of an item: a single one itself, whether or not it is refused; of a section that succeeds its renders; of one that is refused
-- none, since it leaves the state as it is, and declares and routes nothing
abbrev pub calls_in : State → Item → List Call
calls_in st (single c) = c ∷ []
calls_in st (section count rs m frames) =
    cond (eqb (said_item st (section count rs m frames)).number 0) (renders_from count (wide_in st) rs m frames) []

-- those of all items
abbrev pub flat : State → List Item → List Call
flat st [] = []
flat st (x ∷ xs) = calls_in st x ++ flat (after_item st x) xs

-- those of item r, and the place of the first of them in the flat list
abbrev pub calls_of_item : State → List Item → ℕ → List Call
calls_of_item st [] r = []
calls_of_item st (x ∷ xs) zero = calls_in st x
calls_of_item st (x ∷ xs) (suc r) = calls_of_item (after_item st x) xs r

abbrev pub place_of : State → List Item → ℕ → ℕ
place_of st [] r = 0
place_of st (x ∷ xs) zero = 0
place_of st (x ∷ xs) (suc r) = length (calls_in st x) + place_of (after_item st x) xs r

-- ---- of a list of calls together

-- the frames of all, one behind the other
abbrev pub frames_all : State → List Call → List Float
frames_all st [] = []
frames_all st (c ∷ cs) = frames_by st c ++ frames_all (after st c) cs

-- the rounds in sum of what is said
abbrev pub rounds_in : List Said → ℕ
rounds_in [] = 0
rounds_in (s ∷ ss) = s.rounds + rounds_in ss
