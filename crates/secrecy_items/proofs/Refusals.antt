-- Sections that are refused, and sections of no render, computed: they give no frames, and no call stands for them. Assumes nothing.
use mathlib.Core.Path.{◌≡◌, refl}
use mathlib.Core.List.{List, [], ◌∷◌, map}
use Prim.Native.Nat.{ℕ}
use lib.ListN.{replicate}
use Rattle.floats.specs.Defs.{zero32}
use Rattle.calls.specs.Sections.{section_call}
use Rattle.secrecy.specs.Sessions.{render, Said}
use Rattle.secrecy.specs.Declared.{declared}
use Rattle.secrecy.specs.Computing.{computing}
use Rattle.secrecy.specs.Inputs.{start_for, desk, updating_all, whole_range, pcm}
use Rattle.secrecy.proofs.Holds.{st, playing, memory, odd, even}
use Rattle.secrecy_items.specs.Items.{Item, single, section, said_items, frames_at_item}
use Rattle.secrecy_items.specs.Flat.{flat}

-- a section of memory that is one range, by the count and the floats that are lent
abbrev pub sectioning : ℕ → List ℕ → ℕ → Item
sectioning count m floats = section count (whole_range m) m (replicate floats zero32)

-- two voices that play, as `Holds` has them
abbrev pub sounds : List ℕ
sounds = memory odd even 0

-- ---- in a session: one render too many, a float too few, no render, and two renders

abbrev pub items : List ℕ → List Item
items m = single desk ∷ single (playing 0) ∷ sectioning 1025 m 8 ∷ sectioning 2 m 7 ∷ sectioning 0 m 0 ∷ sectioning 2 sounds 8 ∷ []

-- the number of each
abbrev pub numbers : List Said → List ℕ
numbers ss = map (λ (s : Said). s.number) ss

pub refusals : numbers (said_items st (items sounds)) ≡ 0 ∷ 0 ∷ 14 ∷ 7 ∷ 0 ∷ 0 ∷ []
unfolding computing section_call start_for desk updating_all pcm
refusals = refl

-- the three give no frames
pub no_frames : (frames_at_item st (items sounds) 2 ≡ []) × (frames_at_item st (items sounds) 3 ≡ []) × (frames_at_item st (items sounds) 4 ≡ [])
unfolding computing section_call start_for desk updating_all pcm
no_frames = (refl, refl, refl)

-- no call stands for them: in the flat list the last section comes right behind the updates
pub flat_is : flat st (items sounds) ≡ desk ∷ playing 0
    ∷ render (whole_range sounds) sounds (replicate 8 zero32) ∷ render (whole_range sounds) sounds (replicate 4 zero32) ∷ []
unfolding computing section_call start_for desk updating_all pcm
flat_is = refl

-- so they declare nothing: by the first of its renders voice 0 has declared what it has without them
pub nothing_more : declared st (flat st (items sounds)) 2 0
    ≡ declared st (desk ∷ playing 0 ∷ render (whole_range sounds) sounds (replicate 8 zero32) ∷ []) 2 0
unfolding computing section_call start_for desk updating_all pcm
nothing_more = refl
