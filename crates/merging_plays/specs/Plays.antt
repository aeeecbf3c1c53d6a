-- The sentence on positions: what it says that a voice plays in two sessions alike, and of which sessions it is said. Definitions only.
use Rattle.std.specs.Prelude.{◌≡◌, Bool, true, List, ◌∷◌, map, ℕ, length, take}
use Rattle.state.specs.State.{State, params_in}
use Rattle.voice_records.specs.Record.{record_used}
use Rattle.voices.specs.Voices.{voice_record}
use Rattle.updates.specs.Update.{updated}
use Rattle.state_voices.specs.StateVoices.{voice_in}
use Rattle.update_alike.specs.VoiceAfter.{out_of_use}
use Rattle.secrecy.specs.Sessions.{update, after, said}
use Rattle.secrecy_items.specs.Items.{Item, single, item_shape, state_at_item}
use Rattle.merging.specs.Answer.{merge_call}
use Rattle.merging_plays.specs.Told.{told_items}
use Rattle.merging_plays.specs.Renders.{Rendering, NoneRefused, SameRanges, RendersAlike}

-- two lists of items, each from a state of its own: each item tells the same of voice k as the other list's at its place, and before each
-- item, and after the last, voice k is the same
pub record PlaysAlike (k : ℕ) (a b : State) (xs xs' : List Item) : Type 0 where
  pub told : told_items k a xs ≡ told_items k b xs'
  pub voice : (r : ℕ) → voice_in k (state_at_item a xs r) ≡ voice_in k (state_at_item b xs' r)

-- ---- the merged block, and the two that it is made of

-- the block that a merge for a state's parameters writes at the front of an output slice
abbrev pub merged_for : State → List ℕ → List ℕ → List ℕ → List ℕ
merged_for st t c output =
    let o = merge_call (params_in st) t c output in
    take o.size o.output

pub data Whose : Type 0 where
  title : Whose
  click : Whose

-- the title's block t or the click's block c
abbrev pub block_of : Whose → List ℕ → List ℕ → List ℕ
block_of title t c = t
block_of click t c = c

-- whether voice k is in use in a block: its record is there, whole, and says so
abbrev pub in_use : ℕ → List ℕ → Bool
in_use k block = record_used (voice_record block k)

-- ---- of voice k, in use in one of the two

-- an update with the merged block and one with the block where the voice is in use, from one state, and then items of equal shapes: updates
-- with the same inputs, empty ones too; renders and sections of the same ranges, with any sample bytes; slices of equal lengths
abbrev pub PlaysAsIn : State → List ℕ → List ℕ → List ℕ → ℕ → Whose → Type 0
PlaysAsIn st t c output k x =
    in_use k (block_of x t c) ≡ true → (expected : ℕ) (reply reply' : List ℕ) → length reply ≡ length reply'
    → (xs xs' : List Item) → map item_shape xs ≡ map item_shape xs'
    → PlaysAlike k st st
    (single (update expected (merged_for st t c output) reply) ∷ xs) (single (update expected (block_of x t c) reply') ∷ xs')

-- so many renders behind the update that are not refused, of the same ranges, with slices of any lengths
abbrev pub RendersAsIn : State → List ℕ → List ℕ → List ℕ → ℕ → Whose → Type 0
RendersAsIn st t c output k x =
    let a = updated (params_in st) (merged_for st t c output) st in
    let b = updated (params_in st) (block_of x t c) st in
    in_use k (block_of x t c) ≡ true → (xs xs' : List Rendering) → SameRanges xs xs' → NoneRefused a xs → NoneRefused b xs'
    → RendersAlike k a b xs xs'

-- ---- of voice k, in use in neither

-- an update with this input that succeeds puts the voice out of use, and that is all
abbrev pub PutsOut : State → ℕ → List ℕ → Type 0
PutsOut st k input =
    (expected : ℕ) (reply : List ℕ) → (said st (update expected input reply)).number ≡ 0
    → voice_in k (after st (update expected input reply)) ≡ out_of_use (voice_in k st)
