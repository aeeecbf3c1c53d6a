-- A voice after its turn, and the rounds of its fetch: they follow from the voice and the render, and no byte of sample memory. Assumes nothing.
use Rattle.std.specs.Prelude.{Bool, ℕ, ◌≤◌}
use Rattle.std.proofs.Math.Bool.{true, false}
use Rattle.std.proofs.Common.{arith}
use Rattle.voice.specs.declared.Voice.{Voice}
use Rattle.row_trips.specs.Trip.{Shaped}
use Rattle.turn.specs.Render.{Render}
use Rattle.turn.specs.Turn.{takes_part, begin_of, turn_of}
use Rattle.turn.specs.Laws.{rounds_few}
use Rattle.state_voices.specs.StateVoices.{begun_voice, Playing}
use Rattle.state_voices.specs.Shapes.{begin_shaped, begin_playing, turn_shaped, turn_playing}

-- ---- the voice

-- by whether it is ready
unfoldable pub ready_voice : Bool → Render → Voice → Voice
unfolding turn_of
ready_voice true r v = (turn_of v r).voice
ready_voice false r v = v

unfoldable pub next_voice : Render → Voice → Voice
unfolding ready_voice begun_voice takes_part
next_voice r v =
    let b = begun_voice (takes_part v) v in
    ready_voice b.ready r b.voice

-- ---- the rounds

unfoldable pub ready_rounds : Bool → Render → Voice → ℕ
unfolding turn_of
ready_rounds true r v = (turn_of v r).plan.rounds
ready_rounds false r v = 0

unfoldable pub voice_rounds : Render → Voice → ℕ
unfolding ready_rounds begun_voice takes_part
voice_rounds r v =
    let b = begun_voice (takes_part v) v in
    ready_rounds b.ready r b.voice

-- ---- the voice can take another turn

-- what a begin and a turn keep
module _ (r : Render) (P : Voice → Type 0) (begins : (v : Voice) → P v → P (begin_of v).voice) (turns : (v : Voice) → P v → P (turn_of v r).voice) where
  ready_keeps : (b : Bool) (v : Voice) → P v → P (ready_voice b r v)
  unfolding ready_voice
  ready_keeps true v h = turns v h
  ready_keeps false v h = h

  begun_keeps : (b : Bool) (v : Voice) → P v → P (begun_voice b v).voice
  unfolding begun_voice
  begun_keeps true v h = begins v h
  begun_keeps false v h = h

  next_keeps : (v : Voice) → P v → P (next_voice r v)
  unfolding next_voice
  next_keeps v h = ready_keeps (begun_voice (takes_part v) v).ready (begun_voice (takes_part v) v).voice (begun_keeps (takes_part v) v h)

pub next_playing : {n : ℕ} (r : Render) → r.sample_count ≤ 256 → (v : Voice) → Playing n v → Playing n (next_voice r v)
next_playing {n} r l = next_keeps r (Playing n) (λ v h. begin_playing h) (λ v h. turn_playing r l h)

pub next_shaped : (r : Render) (v : Voice) → Shaped v → Shaped (next_voice r v)
next_shaped r = next_keeps r Shaped begin_shaped (λ v h. turn_shaped v r h)

-- ---- at most 64 rounds

ready_rounds_lem : (b : Bool) (r : Render) (v : Voice) → ready_rounds b r v ≤ 64
unfolding ready_rounds
ready_rounds_lem true r v = rounds_few v r
ready_rounds_lem false r v = omega arith

pub voice_rounds_lem : (r : Render) (v : Voice) → voice_rounds r v ≤ 64
unfolding voice_rounds
voice_rounds_lem r v = ready_rounds_lem (begun_voice (takes_part v) v).ready r (begun_voice (takes_part v) v).voice
