-- The positions asked for by updates without a byte, computed on sessions: each answer whole. Assumes nothing.
use mathlib.Core.Path.{◌≡◌, refl}
use mathlib.Core.Bool.{true, false}
use mathlib.Core.List.{List, [], ◌∷◌, ◌++◌}
use Prim.Native.Nat.{ℕ}
use lib.ListN.{replicate}
use Rattle.state.specs.State.{State}
use Rattle.calls.specs.Calls.{open_call}
use Rattle.secrecy.specs.Sessions.{Call, update, Said, said, state_at, said_all, frames_at}
use Rattle.secrecy.specs.Declared.{declared, routed}
use Rattle.secrecy.specs.Demand.{begun}
use Rattle.secrecy.specs.Computing.{computing}
use Rattle.secrecy.specs.Inputs.{byte, word, long, laid_from, revision, params, params_with, slices_for, slices, start, start_for}
use Rattle.secrecy.specs.Inputs.{desk, updating_all, rendering, pcm_voice, pcm, frame, silence}
use Rattle.secrecy.proofs.Positions.{empty_update, positions_same}
use Rattle.secrecy_examples.specs.Answers.{told, rendered}
use Rattle.secrecy_examples.specs.Declared.{pcm_spans}

-- the positions asked for, with more room than the reply takes
abbrev pub asking : Call
asking = empty_update 0 (replicate 0x300 0)

-- an update of 63 zeros: too short for a header
abbrev pub short : Call
short = update 0 (replicate 63 0) (replicate 0x300 0)

-- ---- a voice of four samples: fresh, after two samples, after four; then an update that has a byte, and no record

abbrev pub session : List ℕ → List Call
session m =
    desk ∷ pcm_voice 0 ∷ asking ∷ rendering m ∷ asking ∷ rendering (replicate 8 0) ∷ asking ∷ short ∷ asking ∷ rendering (replicate 8 0) ∷ []

-- two sessions, which differ in a sample that is heard
abbrev pub one : List Call
one = session (pcm (1 ∷ 3 ∷ 5 ∷ 7 ∷ []))

abbrev pub other : List Call
other = session (pcm (9 ∷ 3 ∷ 5 ∷ 7 ∷ []))

abbrev pub st : State
st = start (revision 2)

-- a fresh voice has zeros; then what it has played and consumed; one that is out of use has zeros again
abbrev pub answers : List Said
answers =
    told 0 0 ∷ told 0 0 ∷ told 0 0 ∷ rendered 1 ∷ told 2 0 ∷ rendered 1 ∷ told 4 1 ∷ told 0 0 ∷ told 0 0 ∷ rendered 0 ∷ []

pub one_said : said_all st one ≡ answers
unfolding computing start_for desk updating_all rendering pcm laid_from
one_said = refl

pub other_said : said_all st other ≡ answers
unfolding computing start_for desk updating_all rendering pcm laid_from
other_said = refl

-- after it is asked the voice is heard, in each session its own; after the 63 bytes it isn't
pub frames : (frames_at st one 5 ≡ frame 1 ++ frame 3)
    × (frames_at st other 5 ≡ frame 9 ++ frame 3)
    × (frames_at st one 9 ≡ silence ++ silence)
unfolding computing start_for desk updating_all rendering pcm
frames = (refl, refl, refl)

-- the open succeeds
pub opened_on : (open_call (params (revision 2)) slices).number ≡ 0
unfolding computing slices_for
opened_on = refl

-- asked once more after the first render, both sessions answer the same, by the theorem and computed
pub same : said (state_at st one 4) asking ≡ said (state_at st other 4) asking
unfolding start_for rendering pcm
same = positions_same (params (revision 2)) slices slices opened_on opened_on one other refl 4 0 _ _ refl

pub same_is : said (state_at st one 4) asking ≡ told 2 0
unfolding computing start_for desk updating_all rendering pcm laid_from
same_is = refl

-- nothing is declared or routed by asking; what was declared and routed before stays
pub declares_nothing : (declared st (asking ∷ []) 0 0 ≡ []) × (declared st (pcm_voice 0 ∷ asking ∷ []) 1 0 ≡ pcm_spans)
unfolding computing start_for updating_all
declares_nothing = (refl, refl)

pub routes_nothing : (routed st (asking ∷ []) 1 0 ≡ false) × (routed st (pcm_voice 0 ∷ asking ∷ []) 2 0 ≡ true)
unfolding computing start_for updating_all
routes_nothing = (refl, refl)

-- ---- a whole reply, of revision 5, with an effect: pools 0, the effect 4, one render elapsed

-- the state after a record and a render
abbrev pub with_effect : State
with_effect = state_at (begun (params_with 1 1 (revision 5)) slices) (pcm_voice 0 ∷ rendering (replicate 8 0) ∷ []) 2

pub whole_reply : said with_effect (empty_update 0x1a0 (replicate 0x1a0 7)) ≡ record {
  number = 0;
  size = 0x1a0;
  reply = laid_from 0 0x1a0
      (word 0x00 (revision 5) ∷ word 0x04 0xb0 ∷ word 0x08 0x50 ∷ word 0x0c 0x10 ∷ word 0x14 0x10 ∷ word 0x1c 0x20
      ∷ word 0x20 0x10 ∷ word 0x28 0x10 ∷ word 0x3c 0x1a0 ∷ long 0x90 2 ∷ byte 0xa0 4 ∷ long 0x190 1 ∷ []);
  rounds = 0;
}
unfolding computing slices_for updating_all rendering laid_from
whole_reply = refl
