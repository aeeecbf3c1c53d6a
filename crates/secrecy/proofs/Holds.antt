-- Demand 3's condition holds of sessions whose memories differ, and the frames are then equal: two voices, of which one is never
-- routed; a render that is refused; bytes that no voice declares. A condition that asks for more than these agree on fails here.
-- Assumes nothing.
use mathlib.Core.Path.{◌≡◌, refl}
use mathlib.Core.Bool.{true, false}
use mathlib.Core.List.{List, [], ◌∷◌, ◌++◌, map}
use Prim.Native.Nat.{ℕ, zero, suc, ◌+◌}
use native.Mathlib.Omega.{arith}
use Rattle.params.specs.declared.params.Params.{Params}
use Rattle.state.specs.State.{State}
use Rattle.calls.specs.Calls.{open_call}
use Rattle.alike.specs.Reads.{span}
use Rattle.secrecy.specs.Sessions.{Call, Said, said_all, frames_at}
use Rattle.secrecy.specs.Declared.{routed}
use Rattle.secrecy.specs.Demand.{Agree, Condition}
use Rattle.secrecy.proofs.Secrecy.{demand3}
use Rattle.secrecy.specs.Computing.{computing}
use Rattle.secrecy.specs.Inputs.{no_mix, no_splitter, new_voice, wave, revision, params_for, slices_for, start_for}
use Rattle.secrecy.specs.Inputs.{desk, updating_all, base, rendering, two_ranges, laid_apart, refused_render, pcm, memory_apart, frame}
use Rattle.secrecy.proofs.Same.{same_on, agrees}

abbrev pub p : Params
p = params_for 2 (revision 2)

abbrev pub st : State
st = start_for 2 (revision 2)

pub opened_on : (open_call p (slices_for 2)).number ≡ 0
unfolding computing slices_for
opened_on = refl

-- two voices of 16-bit PCM, four samples each: voice 0 from `base` on, to mix 0; voice 1 behind them, to a mix or to none
abbrev pub playing : ℕ → Call
playing mix = updating_all (new_voice 0 0 no_splitter (wave 0 base 8 4 0) ∷ new_voice 0 mix no_splitter (wave 0 (base + 8) 8 4 0) ∷ [])

-- the samples of voice 0, those of voice 1, and one that no voice has
abbrev pub memory : List ℕ → List ℕ → ℕ → List ℕ
memory first second rest = pcm first ++ (pcm second ++ pcm (rest ∷ []))

abbrev pub odd : List ℕ
odd = 1 ∷ 3 ∷ 5 ∷ 7 ∷ []

abbrev pub even : List ℕ
even = 2 ∷ 4 ∷ 6 ∷ 8 ∷ []

abbrev pub others : List ℕ
others = 12 ∷ 14 ∷ 16 ∷ 18 ∷ []

-- two renders of one memory: the first is heard in the second
abbrev pub twice : ℕ → List ℕ → List Call
twice mix m = desk ∷ playing mix ∷ rendering m ∷ rendering m ∷ []

-- ---- a voice that is never routed: the memories differ where it declares

abbrev pub one : List Call
one = twice no_mix (memory odd even 0)

abbrev pub other : List Call
other = twice no_mix (memory odd others 0)

pub unrouted : Condition p st one other 3
unfolding computing start_for desk updating_all rendering pcm same_on
unrouted zero l k inside t s = tt
unrouted (suc zero) l k inside t s = tt
unrouted (suc (suc zero)) l zero inside t s = agrees (memory odd even 0) (memory odd others 0) _ _ refl
unrouted (suc (suc zero)) l (suc zero) inside t s = absurd t
unrouted (suc (suc zero)) l (suc (suc k)) inside t s = absurd (omega arith)
unrouted (suc (suc (suc zero))) l zero inside t s = agrees (memory odd even 0) (memory odd others 0) _ _ refl
unrouted (suc (suc (suc zero))) l (suc zero) inside t s = absurd t
unrouted (suc (suc (suc zero))) l (suc (suc k)) inside t s = absurd (omega arith)
unrouted (suc (suc (suc (suc j)))) l k inside t s = absurd (omega arith)

-- so the frames of the second render are equal, and not silent
pub unrouted_frames : frames_at st one 3 ≡ frames_at st other 3
unfolding start_for rendering pcm
unrouted_frames = (demand3 p (slices_for 2) (slices_for 2) opened_on opened_on one other refl).frames 3 unrouted

pub one_frames : frames_at st one 3 ≡ frame 1 ++ frame 3
unfolding computing start_for desk updating_all rendering pcm
one_frames = refl

-- voice 1 is routed in neither; sent to mix 0 it is heard, and the frames differ
pub routed_voices : (routed st one 3 0 ≡ true) × (routed st one 3 1 ≡ false) × (routed st (twice 0 (memory odd even 0)) 3 1 ≡ true)
unfolding computing start_for desk updating_all rendering pcm
routed_voices = (refl, refl, refl)

pub both_heard : (frames_at st (twice 0 (memory odd even 0)) 3 ≡ frame 3 ++ frame 7)
    × (frames_at st (twice 0 (memory odd others 0)) 3 ≡ frame 13 ++ frame 17)
unfolding computing start_for desk updating_all rendering pcm
both_heard = (refl, refl)

-- ---- a render that is refused: the memories differ there where a voice that is routed declares

abbrev pub refusing : List ℕ → List Call
refusing m = desk ∷ playing 0 ∷ refused_render m ∷ rendering (memory odd even 0) ∷ rendering (memory odd even 0) ∷ []

abbrev pub first : List Call
first = refusing (memory odd even 0)

abbrev pub second : List Call
second = refusing (memory others others 0)

pub refused_render_lem : Condition p st first second 4
unfolding computing start_for desk updating_all rendering refused_render pcm same_on
refused_render_lem zero l k inside t s = tt
refused_render_lem (suc zero) l k inside t s = tt
refused_render_lem (suc (suc zero)) l k inside t s = absurd s
refused_render_lem (suc (suc (suc zero))) l k inside t s = λ r i x lo hi w. refl
refused_render_lem (suc (suc (suc (suc zero)))) l k inside t s = λ r i x lo hi w. refl
refused_render_lem (suc (suc (suc (suc (suc j))))) l k inside t s = absurd (omega arith)

pub refused_frames : frames_at st first 4 ≡ frames_at st second 4
unfolding start_for refused_render pcm
refused_frames = (demand3 p (slices_for 2) (slices_for 2) opened_on opened_on first second refl).frames 4 refused_render_lem

pub first_frames : frames_at st first 4 ≡ frame 3 ++ frame 7
unfolding computing start_for desk updating_all rendering refused_render pcm
first_frames = refl

-- its number is 7
pub refusal : map (λ (s : Said). s.number) (said_all st first) ≡ 0 ∷ 0 ∷ 7 ∷ 0 ∷ 0 ∷ []
unfolding computing start_for desk updating_all rendering refused_render pcm
refusal = refl

-- ---- bytes that no voice declares: both voices are routed, and the memories differ behind their samples

abbrev pub here : List Call
here = twice 0 (memory odd even 0)

abbrev pub there : List Call
there = twice 0 (memory odd even 0xffff)

pub undeclared : Condition p st here there 3
unfolding computing start_for desk updating_all rendering pcm same_on
undeclared zero l k inside t s = tt
undeclared (suc zero) l k inside t s = tt
undeclared (suc (suc zero)) l zero inside t s = agrees (memory odd even 0) (memory odd even 0xffff) _ _ refl
undeclared (suc (suc zero)) l (suc zero) inside t s = agrees (memory odd even 0) (memory odd even 0xffff) _ _ refl
undeclared (suc (suc zero)) l (suc (suc k)) inside t s = absurd (omega arith)
undeclared (suc (suc (suc zero))) l zero inside t s = agrees (memory odd even 0) (memory odd even 0xffff) _ _ refl
undeclared (suc (suc (suc zero))) l (suc zero) inside t s = agrees (memory odd even 0) (memory odd even 0xffff) _ _ refl
undeclared (suc (suc (suc zero))) l (suc (suc k)) inside t s = absurd (omega arith)
undeclared (suc (suc (suc (suc j)))) l k inside t s = absurd (omega arith)

pub undeclared_frames : frames_at st here 3 ≡ frames_at st there 3
unfolding start_for rendering pcm
undeclared_frames = (demand3 p (slices_for 2) (slices_for 2) opened_on opened_on here there refl).frames 3 undeclared

-- ---- memory in two ranges

-- the memories agree where bytes differ that no span covers, and where bytes differ that lie in no range, though the span has all addresses
-- of both
pub elsewhere : Agree (two_ranges 0) (memory_apart 0x100 7 0) (memory_apart 0x100 9 0) (span base 4 ∷ [])
    × Agree (two_ranges 0) (memory_apart 0x100 7 0) (memory_apart 0x100 7 0xff) (span base 8 ∷ [])
unfolding laid_apart pcm same_on
elsewhere = (
  agrees (memory_apart 0x100 7 0) (memory_apart 0x100 9 0) (two_ranges 0) (span base 4 ∷ []) refl,
  agrees (memory_apart 0x100 7 0) (memory_apart 0x100 7 0xff) (two_ranges 0) (span base 8 ∷ []) refl,
)
