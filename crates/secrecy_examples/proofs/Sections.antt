-- Song sections, computed: the questions in their sequence and at their limits; what is said of a section behind an update, and of the
-- single renders that stand for it, literally. Assumes nothing.
use mathlib.Core.Path.{◌≡◌, refl}
use mathlib.Core.List.{List, [], ◌∷◌}
use Prim.Native.Nat.{ℕ, ◌-◌, ◌^◌}
use lib.ListN.{replicate}
use Rattle.floats.specs.Defs.{zero32}
use Rattle.ranges.specs.Ranges.{Range, range}
use Rattle.state.specs.State.{State}
use Rattle.calls.specs.Sections.{section_call}
use Rattle.secrecy.specs.Sessions.{Said, said, said_all}
use Rattle.secrecy.specs.Computing.{computing}
use Rattle.secrecy.specs.Inputs.{laid_from, params, revision, slices, slices_for, start_for}
use Rattle.secrecy.specs.Inputs.{desk, updating_all, base, whole_range, pcm_voice, pcm}
use Rattle.secrecy_items.specs.Items.{Item, single, section, said_items, state_at_item}
use Rattle.secrecy_items.specs.Flat.{flat}
use Rattle.secrecy_items.proofs.Secrecy.{demand3_items, item_positions_same}
use Rattle.secrecy_examples.specs.Answers.{told, rendered}
use Rattle.secrecy_examples.proofs.Positions.{asking, st, opened_on}
use Rattle.secrecy_examples.proofs.RangeRefusals.{wrong}

-- ---- the questions

-- the number that a section answers: of a state, a count, ranges over a slice of 13 bytes, and a frame slice of so many floats
abbrev pub number_of : State → ℕ → List Range → ℕ → ℕ
number_of state count rs floats = (section_call state count rs (replicate 13 0) (replicate floats zero32)).number

-- a range that is far, and one that is right
abbrev pub far : List Range
far = range (2 ^ 63 - 7) 0 8 ∷ []

abbrev pub right : List Range
right = range base 0 8 ∷ []

-- 4, 13, 5, 14 and 7: in each all of the later ones would be answered "no" too
pub sequence : (number_of slices 1025 wrong 3 ≡ 4)
    × (number_of st 1025 wrong 3 ≡ 13)
    × (number_of st 1025 far 3 ≡ 5)
    × (number_of st 1025 right 3 ≡ 14)
    × (number_of st 1024 right 3 ≡ 7)
unfolding computing section_call slices_for start_for
sequence = (refl, refl, refl, refl, refl)

-- as many renders as there may be, and one more; the largest count of 32 bits
pub most : (number_of st 1024 right 4096 ≡ 0)
    × (number_of st 1024 right 4095 ≡ 7)
    × (number_of st 1025 right 4100 ≡ 14)
    × (number_of st (2 ^ 32 - 1) right 4100 ≡ 14)
unfolding computing section_call start_for
most = (refl, refl, refl, refl)

-- no render is asked the same, and needs no float
pub none : (number_of slices 0 right 0 ≡ 4) × (number_of st 0 wrong 0 ≡ 13) × (number_of st 0 far 0 ≡ 5) × (number_of st 0 right 0 ≡ 0)
unfolding computing section_call slices_for start_for
none = (refl, refl, refl, refl)

-- ---- a voice of four samples, a section of two renders, and the positions

abbrev pub session : List ℕ → List Item
session m = single desk ∷ single (pcm_voice 0) ∷ section 2 (whole_range m) m (replicate 8 zero32) ∷ single asking ∷ []

-- two sessions, which differ in a sample that is heard
abbrev pub one : List Item
one = session (pcm (1 ∷ 3 ∷ 5 ∷ 7 ∷ []))

abbrev pub other : List Item
other = session (pcm (9 ∷ 3 ∷ 5 ∷ 7 ∷ []))

-- the section takes the rounds of both renders
abbrev pub answers : List Said
answers = told 0 0 ∷ told 0 0 ∷ rendered 2 ∷ told 4 1 ∷ []

pub one_said : said_items st one ≡ answers
unfolding computing section_call start_for desk updating_all pcm laid_from
one_said = refl

pub other_said : said_items st other ≡ answers
unfolding computing section_call start_for desk updating_all pcm laid_from
other_said = refl

-- the flat list has a render for each, and the rest is the same
pub flat_said : said_all st (flat st one) ≡ told 0 0 ∷ told 0 0 ∷ rendered 1 ∷ rendered 1 ∷ told 4 1 ∷ []
unfolding computing section_call start_for desk updating_all pcm laid_from
flat_said = refl

-- both say the same by the theorem too, and so they do where the positions are asked once more behind the section
pub same : said_items st one ≡ said_items st other
unfolding start_for pcm
same = (demand3_items (params (revision 2)) slices slices opened_on opened_on one other refl).said

pub asked : said (state_at_item st one 3) asking ≡ said (state_at_item st other 3) asking
unfolding start_for pcm
asked = item_positions_same (params (revision 2)) slices slices opened_on opened_on one other refl 3 0 _ _ refl
