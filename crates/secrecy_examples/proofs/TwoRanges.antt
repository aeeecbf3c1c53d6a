-- A voice that plays from memory in two ranges, computed on sessions: a frame with a byte in each is heard and is declared as one span, and
-- with a byte missing between them it is neither; a byte in no range changes nothing, and a byte of the second range that is declared is
-- heard. Assumes nothing.
use mathlib.Core.Path.{◌≡◌, refl, ap, sym, ◌∙◌}
use mathlib.Core.Bool.{Bool, true, false, true≢false}
use mathlib.Core.List.Memᴰ
use mathlib.Core.List.{List, [], ◌∷◌, ◌++◌}
use Prim.Native.Nat.{ℕ, zero, suc, ◌+◌}
use native.Mathlib.Omega.{arith}
use lib.Ieee.{Float, nan, fin, eq}
use lib.IntN.{negsuc}
use lib.ListN.{take, drop, get_or}
use Rattle.ranges.specs.Ranges.{Range, range}
use Rattle.state.specs.State.{State}
use Rattle.alike.specs.Reads.{span}
use Rattle.secrecy.specs.Sessions.{Call, frames_at}
use Rattle.secrecy.specs.Declared.{declared, routed}
use Rattle.secrecy.specs.Demand.{Agree, Condition}
use Rattle.secrecy.proofs.Secrecy.{demand3}
use Rattle.secrecy.specs.Computing.{computing}
use Rattle.secrecy.specs.Inputs.{params, revision, slices, start, start_for, desk, updating_all, base, two_ranges, laid_apart}
use Rattle.secrecy.specs.Inputs.{rendering_in, pcm_voice, pcm, memory_apart, adpcm_voice, adpcm, frame, silence}
use Rattle.secrecy.proofs.Same.{same_on, agrees}
use Rattle.secrecy_examples.specs.Declared.{pcm_spans, adpcm_spans}
use Rattle.secrecy_examples.proofs.Positions.{opened_on}

-- a session's state with one voice, of revision 2
abbrev pub st : State
st = start (revision 2)

-- the voice plays four samples from `base` on, in two renders; `gap` addresses between the ranges are in neither
abbrev pub session : ℕ → List ℕ → List Call
session gap m = desk ∷ pcm_voice 0 ∷ rendering_in (two_ranges gap) m ∷ rendering_in (two_ranges gap) m ∷ []

-- ---- a frame with a byte in each range

-- ranges that touch
abbrev pub one : List Call
one = session 0 (memory_apart 0x100 7 0)

-- the second sample has a byte in each: they are heard in the sequence of their addresses
pub straddling : frames_at st one 3 ≡ frame 1 ++ frame 0x103
unfolding computing start_for desk updating_all rendering_in laid_apart pcm
straddling = refl

-- the read of the first two samples is one span
pub straddling_spans : declared st one 3 0 ≡ pcm_spans ++ (span base 4 ∷ span (base + 4) 4 ∷ [])
unfolding computing start_for desk updating_all rendering_in laid_apart pcm
straddling_spans = refl

-- the same with an address between the ranges that neither has: the read fails, nothing is declared of it, and nothing is heard
pub missing : (frames_at st (session 1 (memory_apart 0x100 7 0)) 3 ≡ silence ++ silence)
    × (declared st (session 1 (memory_apart 0x100 7 0)) 3 0 ≡ pcm_spans)
unfolding computing start_for desk updating_all rendering_in laid_apart pcm
missing = (refl, refl)

-- ---- a byte in no range

-- the same but for the five bytes of the slice that lie in no range
abbrev pub outside : List Call
outside = session 0 (memory_apart 0x100 7 0xff)

-- the condition holds of the two
pub unasked : Condition (params (revision 2)) st one outside 3
unfolding computing start_for desk updating_all rendering_in laid_apart pcm same_on
unasked zero l k inside t s = tt
unasked (suc zero) l k inside t s = tt
unasked (suc (suc zero)) l zero inside t s = agrees (memory_apart 0x100 7 0) (memory_apart 0x100 7 0xff) _ _ refl
unasked (suc (suc zero)) l (suc k) inside t s = absurd (omega arith)
unasked (suc (suc (suc zero))) l zero inside t s = agrees (memory_apart 0x100 7 0) (memory_apart 0x100 7 0xff) _ _ refl
unasked (suc (suc (suc zero))) l (suc k) inside t s = absurd (omega arith)
unasked (suc (suc (suc (suc j)))) l k inside t s = absurd (omega arith)

-- so the frames are equal: those of `straddling`, which are not silent
pub unasked_frames : frames_at st one 3 ≡ frames_at st outside 3
unfolding start_for rendering_in laid_apart pcm
unasked_frames = (demand3 (params (revision 2)) slices slices opened_on opened_on one outside refl).frames 3 unasked

-- the voice is routed, so that the condition asks something of it
pub is_routed : routed st one 3 0 ≡ true
unfolding computing start_for desk updating_all rendering_in laid_apart pcm
is_routed = refl

-- ---- a byte of the second range, which the voice declares

-- another high byte of the second sample
abbrev pub other : List Call
other = session 0 (memory_apart 0x200 7 0)

-- it is heard, so that the frames differ
pub other_frames : frames_at st other 3 ≡ frame 1 ++ frame 0x203
unfolding computing start_for desk updating_all rendering_in laid_apart pcm
other_frames = refl

pub frames_differ : frames_at st one 3 ≡ frames_at st other 3 → ⊥
unfolding eq
frames_differ e =
    let second : List Float → Bool = λ fs. eq (get_or fs 2 nan) (fin false 0x103 (negsuc 14)) in
    true≢false (ap second (sym straddling ∙ e ∙ other_frames))

-- the memories do not agree on what the voice has declared by the first render
pub second_differs : Agree (two_ranges 0) (memory_apart 0x100 7 0) (memory_apart 0x200 7 0) (declared st one 2 0) → ⊥
unfolding computing start_for desk updating_all rendering_in laid_apart pcm
second_differs agree =
    let low : ℕ = 1 in
    let high : ℕ = 2 in
    let e : low ≡ high =
    agree (range (base + 3) 0 5) (Memᴰ.tail (Memᴰ.head refl)) (base + 3) (omega arith) (omega arith)
    (span base 8, Memᴰ.tail (Memᴰ.head refl), (3, omega arith, refl)) in
    omega (arith, e)

-- in the first range alone they do
pub first_agrees : Agree (range base 9 3 ∷ []) (memory_apart 0x100 7 0) (memory_apart 0x200 7 0) (declared st one 2 0)
unfolding computing start_for desk updating_all rendering_in laid_apart pcm same_on
first_agrees = agrees (memory_apart 0x100 7 0) (memory_apart 0x200 7 0) _ _ refl

-- ---- three ranges: ADPCM, whose context has bytes in all of them

-- 48 bytes from `base` on, cut behind 33 and behind 35 of them; the last part lies first in the slice
abbrev pub three_ranges : List Range
three_ranges = range base 13 33 ∷ range (base + 33) 46 2 ∷ range (base + 35) 0 13 ∷ []

-- the slice, by these bytes
abbrev pub laid_thrice : List ℕ → List ℕ
laid_thrice bytes = drop 35 bytes ++ (take 33 bytes ++ take 2 (drop 33 bytes))

-- the voice plays two samples, and they are heard in the second render
abbrev pub adpcm_session : List ℕ → List Call
adpcm_session m = desk ∷ adpcm_voice 0 ∷ rendering_in three_ranges m ∷ rendering_in three_ranges m ∷ []

-- heard as from one range (`right`, Heard), and otherwise by another context and other nibbles
pub gathered : (frames_at st (adpcm_session (laid_thrice (adpcm 8 101 0x02))) 3 ≡ frame 101 ++ frame 103)
    × (frames_at st (adpcm_session (laid_thrice (adpcm 8 103 0x00))) 3 ≡ frame 103 ++ frame 103)
unfolding computing start_for desk updating_all rendering_in adpcm
gathered = (refl, refl)

-- each read is one span
pub gathered_spans : declared st (adpcm_session (laid_thrice (adpcm 8 101 0x02))) 2 0
    ≡ adpcm_spans ++ (span base 32 ∷ span (base + 32) 6 ∷ span (base + 40) 2 ∷ [])
unfolding computing start_for desk updating_all rendering_in adpcm
gathered_spans = refl
