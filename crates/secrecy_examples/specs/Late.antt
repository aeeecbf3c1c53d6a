-- "However late": what is heard of a voice may come from a render before it was routed, so demand 3 has to ask agreement there too. Assumes nothing.
use Rattle.std.specs.Prelude.{◌≡◌, refl, Bool, true, false, List, [], ◌∷◌, ◌++◌, ℕ, zero, suc, ◌≤◌, ◌<◌, T, Float, negsuc, get_or, replicate}
use Rattle.std.proofs.Common.{ap, sym, ◌∙◌, true≢false, arith}
use Rattle.std.specs.Float.{nan, fin}
use Rattle.std.specs.Float.Ieee.{eq}
use Rattle.params.specs.declared.params.Params.{Params}
use Rattle.state.specs.State.{State}
use Rattle.secrecy.specs.Sessions.{Call, Said, succeeds, state_at, said_all, frames_at}
use Rattle.secrecy.specs.Declared.{declared, routed}
use Rattle.secrecy.specs.Demand.{AgreeOn, call_at}
use Rattle.secrecy.specs.Computing.{computing}
use Rattle.secrecy.specs.Inputs.{laid_from, no_mix, params, revision, start, start_for}
use Rattle.secrecy.specs.Inputs.{desk, updating_all, rendering, pcm_voice, pcm_later, pcm, frame, silence}
use Rattle.secrecy_examples.specs.Answers.{told, rendered}

-- the voice plays to no mix; a render; it is sent to mix 0; a render of zeros
abbrev pub session : List ℕ → List Call
session m = desk ∷ pcm_voice no_mix ∷ rendering m ∷ pcm_later 0 ∷ rendering (replicate 8 0) ∷ []

-- two sessions, which differ in a byte that the first render reads
abbrev pub one : List Call
one = session (pcm (1 ∷ 3 ∷ 5 ∷ 7 ∷ []))

abbrev pub other : List Call
other = session (pcm (9 ∷ 3 ∷ 5 ∷ 7 ∷ []))

abbrev pub st : State
st = start (revision 2)

-- ---- computed

-- the voice is routed by call 3, and not before
pub routed_late : (routed st one 3 0 ≡ false) × (routed st one 4 0 ≡ true)
unfolding computing start_for desk updating_all rendering pcm
routed_late = (refl, refl)

abbrev pub answers : List Said
answers = told 0 0 ∷ told 0 0 ∷ rendered 1 ∷ told 2 0 ∷ rendered 1 ∷ []

-- both sessions say the same
pub one_said : said_all st one ≡ answers
unfolding computing start_for desk updating_all rendering pcm laid_from
one_said = refl

pub other_said : said_all st other ≡ answers
unfolding computing start_for desk updating_all rendering pcm laid_from
other_said = refl

-- nothing is heard at the first render, and its samples are heard at the last
pub first_frames : (frames_at st one 2 ≡ silence ++ silence) × (frames_at st other 2 ≡ silence ++ silence)
unfolding computing start_for desk updating_all rendering pcm
first_frames = (refl, refl)

pub one_frames : frames_at st one 4 ≡ frame 1 ++ frame 3
unfolding computing start_for desk updating_all rendering pcm
one_frames = refl

pub other_frames : frames_at st other 4 ≡ frame 9 ++ frame 3
unfolding computing start_for desk updating_all rendering pcm
other_frames = refl

-- ---- what follows

-- the frames of the last render differ
pub frames_differ : frames_at st one 4 ≡ frames_at st other 4 → ⊥
unfolding eq
frames_differ e =
    let first : List Float → Bool = λ fs. eq (get_or fs 0 nan) (fin false 1 (negsuc 14)) in
    true≢false (ap first (sym one_frames ∙ e ∙ other_frames))

-- demand 3's condition, with "routed before that render" in place of "routed at any time before r"
abbrev pub Early : Params → State → List Call → List Call → ℕ → Type 0
Early p s cs cs' r =
    (j : ℕ) → j ≤ r → (k : ℕ) → k < p.voices → T (routed s cs j k) → T (succeeds (state_at s cs j) (call_at cs j))
    → AgreeOn (call_at cs j) (call_at cs' j) (declared s cs j k)

-- it holds, so it is not enough
pub early : Early (params (revision 2)) st one other 4
unfolding computing start_for desk updating_all rendering pcm
early zero l k inside t s = tt
early (suc zero) l k inside t s = tt
early (suc (suc zero)) l zero inside t s = absurd t
early (suc (suc zero)) l (suc k) inside t s = absurd (omega arith)
early (suc (suc (suc zero))) l k inside t s = tt
early (suc (suc (suc (suc zero)))) l k inside t s = λ r i x lo hi w. refl
early (suc (suc (suc (suc (suc j))))) l k inside t s = absurd (omega arith)
