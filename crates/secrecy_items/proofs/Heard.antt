-- Sections computed: a section of two renders against two single ones, with a byte that only the second reads; what stands for it in the
-- flat list, literally. Assumes nothing.
use mathlib.Core.Path.{◌≡◌, refl}
use mathlib.Core.List.{List, [], ◌∷◌, ◌++◌, map}
use Prim.Native.Nat.{ℕ, ◌+◌}
use lib.ListN.{take, drop, replicate}
use Rattle.floats.specs.Defs.{zero32}
use Rattle.state.specs.State.{State}
use Rattle.alike.specs.Reads.{Span, span}
use Rattle.calls.specs.Sections.{section_call}
use Rattle.secrecy.specs.Sessions.{Call, render, Said, state_at, said_all, frames_at}
use Rattle.secrecy.specs.Declared.{reads}
use Rattle.secrecy.specs.Computing.{computing}
use Rattle.secrecy.specs.Inputs.{Field, byte, word, one_bits, no_splitter, wave, revision, start, start_for}
use Rattle.secrecy.specs.Inputs.{desk, updating, updating_all, base, whole_range, pcm, frame, silence}
use Rattle.secrecy_items.specs.Items.{Item, single, section, said_items, frames_at_item, frames_items}
use Rattle.secrecy_items.specs.Flat.{flat, frames_all}

-- a voice of eight samples at twice the rate: a render takes four of them, and its second frame is the first of these
abbrev pub fast_voice : List Field
fast_voice =
    byte 0x08 1 ∷ byte 0x09 1 ∷ byte 0x0b 2 ∷ word 0x0c 96000 ∷ word 0x18 1 ∷ word 0x1c one_bits ∷ word 0x20 one_bits ∷ word 0x3c 1
    ∷ word 0x5c no_splitter ∷ wave 0 base 16 8 0

-- the second render reads the fifth sample, as `reads_apart` has it
abbrev pub samples : ℕ → List ℕ
samples fifth = pcm (1 ∷ 3 ∷ 5 ∷ 7 ∷ fifth ∷ 11 ∷ 13 ∷ 15 ∷ [])

-- a session's state with one voice
abbrev pub st : State
st = start (revision 2)

-- a render, and a section of two, that are lent so many floats
abbrev pub lent : ℕ → ℕ → Call
lent fifth floats = render (whole_range (samples fifth)) (samples fifth) (replicate floats zero32)

abbrev pub two : ℕ → ℕ → Item
two fifth floats = section 2 (whole_range (samples fifth)) (samples fifth) (replicate floats zero32)

-- a section of two renders, with a float more than it fills; and two single renders
abbrev pub joint : ℕ → List Item
joint fifth = single desk ∷ single (updating fast_voice) ∷ two fifth 9 ∷ []

abbrev pub apart : ℕ → List Item
apart fifth = single desk ∷ single (updating fast_voice) ∷ single (lent fifth 4) ∷ single (lent fifth 4) ∷ []

-- ---- what stands for the section

-- two renders, the second lent the floats from the fifth on
pub joint_flat : flat st (joint 9) ≡ desk ∷ updating fast_voice ∷ lent 9 9 ∷ lent 9 5 ∷ []
unfolding computing section_call start_for desk updating_all pcm
joint_flat = refl

-- single calls stand for themselves
pub apart_flat : flat st (apart 9) ≡ desk ∷ updating fast_voice ∷ lent 9 4 ∷ lent 9 4 ∷ []
unfolding computing section_call start_for desk updating_all pcm
apart_flat = refl

-- ---- what is read: by the first render the first four samples, by the second the others

abbrev pub read_at : ℕ → List Span
read_at place = reads (state_at st (flat st (joint 9)) place) (whole_range (samples 9)) 0

pub reads_apart : (read_at 2 ≡ span base 8 ∷ []) × (read_at 3 ≡ span (base + 8) 8 ∷ [])
unfolding computing section_call start_for desk updating_all pcm
reads_apart = (refl, refl)

-- ---- what is said: a round for each render

-- the rounds of each
abbrev pub rounds : List Said → List ℕ
rounds ss = map (λ (s : Said). s.rounds) ss

pub rounds_said : (rounds (said_items st (joint 9)) ≡ 0 ∷ 0 ∷ 2 ∷ [])
    × (rounds (said_all st (flat st (joint 9))) ≡ 0 ∷ 0 ∷ 1 ∷ 1 ∷ [])
    × (rounds (said_items st (apart 9)) ≡ 0 ∷ 0 ∷ 1 ∷ 1 ∷ [])
unfolding computing section_call start_for desk updating_all pcm
rounds_said = (refl, refl, refl)

-- ---- frames

-- the frames of the first render are these, whatever the fifth sample is
pub first_render : (fifth : ℕ)
    → (take 4 (frames_at_item st (joint fifth) 2) ≡ silence ++ frame 1)
    × (frames_at st (flat st (joint fifth)) 2 ≡ silence ++ frame 1)
    × (frames_at_item st (apart fifth) 2 ≡ silence ++ frame 1)
unfolding computing section_call start_for desk updating_all pcm
first_render fifth = (refl, refl, refl)

-- in those of the second it is heard
pub second_render : (drop 4 (frames_at_item st (joint 9) 2) ≡ frame 5 ++ frame 9)
    × (drop 4 (frames_at_item st (joint 17) 2) ≡ frame 5 ++ frame 17)
    × (frames_at st (flat st (joint 17)) 3 ≡ frame 5 ++ frame 17)
    × (frames_at_item st (apart 17) 3 ≡ frame 5 ++ frame 17)
unfolding computing section_call start_for desk updating_all pcm
second_render = (refl, refl, refl, refl)

-- all of them in order
pub in_order : (frames_items st (joint 9) ≡ silence ++ (frame 1 ++ (frame 5 ++ frame 9)))
    × (frames_all st (flat st (joint 9)) ≡ silence ++ (frame 1 ++ (frame 5 ++ frame 9)))
    × (frames_items st (apart 9) ≡ silence ++ (frame 1 ++ (frame 5 ++ frame 9)))
unfolding computing section_call start_for desk updating_all pcm
in_order = (refl, refl, refl)
