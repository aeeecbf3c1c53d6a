-- The frames of a voice that is routed depend on the bytes that it declares. Assumes nothing.
use Rattle.std.specs.Prelude.{◌≡◌, refl, List, [], ◌∷◌, ◌++◌, ℕ, Float, replicate}
use Rattle.state.specs.State.{State}
use Rattle.secrecy.specs.Sessions.{Call, after, frames_at}
use Rattle.secrecy.specs.Computing.{computing}
use Rattle.secrecy.specs.Inputs.{no_mix, revision, start, start_for, desk, updating, updating_all, rendering, pcm_voice, pcm, adpcm_voice, adpcm, frame, silence}

-- the frames of the second render, by the bytes of the first: what a render reads is heard in the next
abbrev pub heard : State → Call → List ℕ → List Float
heard st voice m = frames_at st (voice ∷ rendering m ∷ rendering (replicate 48 0) ∷ []) 2

unfoldable pub gives : State → List (List Float)
gives st =
    -- a render reads two samples
    heard st (pcm_voice 0) (pcm (1 ∷ 3 ∷ 5 ∷ 7 ∷ []))
    ∷ heard st (pcm_voice 0) (pcm (9 ∷ 3 ∷ 5 ∷ 7 ∷ []))
    ∷ heard st (pcm_voice 0) (pcm (1 ∷ 9 ∷ 5 ∷ 7 ∷ []))
    ∷ heard st (pcm_voice 0) (pcm (1 ∷ 3 ∷ 9 ∷ 7 ∷ []))
    -- a voice that is not routed
    ∷ heard st (pcm_voice no_mix) (pcm (1 ∷ 3 ∷ 5 ∷ 7 ∷ []))
    -- ADPCM; with another coefficient, another context, other nibbles
    ∷ heard st (adpcm_voice 0) (adpcm 8 101 0x00)
    ∷ heard st (adpcm_voice 0) (adpcm 0 101 0x00)
    ∷ heard st (adpcm_voice 0) (adpcm 8 103 0x00)
    ∷ heard st (adpcm_voice 0) (adpcm 8 101 0x02)
    ∷ []

abbrev pub says : List (List Float)
says =
    (frame 1 ++ frame 3)
    ∷ (frame 9 ++ frame 3)
    ∷ (frame 1 ++ frame 9)
    ∷ (frame 1 ++ frame 3)
    ∷ (silence ++ silence)
    ∷ (frame 101 ++ frame 101)
    ∷ (silence ++ silence)
    ∷ (frame 103 ++ frame 103)
    ∷ (frame 101 ++ frame 103)
    ∷ []

pub right : gives (after (start (revision 2)) desk) ≡ says
unfolding computing start_for desk updating_all rendering pcm adpcm gives
right = refl
