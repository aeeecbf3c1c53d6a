-- What the turn of a voice that is ready leaves of the state and the mix buffers. Assumes nothing.
use Rattle.std.specs.Prelude.{◌≡◌, Bool, List, ℕ, ◌+◌, ◌*◌, ◌≤◌, ◌<◌, Float, length}
use Rattle.std.proofs.Math.Path.{refl}
use Rattle.std.proofs.Common.{◌∙◌, arith}
use Rattle.std.proofs.Math.Bool.{true, false}
use Rattle.rows.specs.Rows.{part}
use Rattle.params.specs.declared.params.Params.{Params}
use Rattle.state.specs.State.{State, Sized}
use Rattle.voice.specs.declared.Voice.{Voice}
use Rattle.voice.specs.Voice.{queue_of}
use Rattle.sound_rows.specs.SoundRow.{history_of}
use Rattle.row_trips.specs.Trip.{Shaped}
use Rattle.plan.specs.Fits.{plan_made}
use Rattle.ranges.specs.Ascending.{Ascending}
use Rattle.turn.specs.Render.{Render}
use Rattle.turn.specs.Turn.{source_of, needed_by, planned_by, turn_of}
use Rattle.playing.specs.Playing.{played_sound}
use Rattle.playing.specs.Lengths.{length_history}
use Rattle.hearing.specs.Laws.{length_sound_in}
use Rattle.sending.specs.Laws.{routed_sized, length_routed_buffers, length_routed, routed_before}
use Rattle.state_voices.specs.StateVoices.{voice_in, Playing}
use Rattle.state_voices.specs.Keeps.{OnlyVoice, only_then, only_voice, only_sound, only_floats, voice_floats_lem}
use Rattle.state_voices.specs.Shapes.{turn_shaped, voice_put}
use Rattle.voice_turn.specs.Played.{Studio, studio, material_of, turn_material, fetched, ramped_out, destined, sent_buffers, sent_floats, played}

-- from a to b: only voice k, which becomes v, and its sound are others, with the gains and the mix buffers; some rounds are counted
pub record Stepped (p : Params) (k : ℕ) (v : Voice) (rounds : ℕ) (a b : Studio) : Type 0 where
  pub only : OnlyVoice p k a.state b.state
  pub voice : voice_in k b.state ≡ v
  pub buffers : length b.buffers ≡ length a.buffers
  pub total : b.rounds ≡ a.rounds + rounds

-- ---- the sends

module _ {p : Params} {v : Voice} (q : Playing p.voices v) (out : List Float) (st : State) (z : Sized p st) (buffers : List Float) where
  sent_long : (d : Bool) → length (sent_floats d p v out st.words st.floats buffers) ≡ length st.floats
  unfolding sent_floats
  sent_long true =
      length_routed p (routed_sized p p.sample_count v.channels v.mix_id v.splitter_id out st.words st.floats buffers q.ids q.channels z.floats)
      st.floats z.floats
  sent_long false = refl

  sent_before_lem : (d : Bool) (w at : ℕ) → at + w ≤ p.voices * 4 → part w at (sent_floats d p v out st.words st.floats buffers) ≡ part w at st.floats
  unfolding sent_floats
  sent_before_lem true w at h =
      routed_before p (routed_sized p p.sample_count v.channels v.mix_id v.splitter_id out st.words st.floats buffers q.ids q.channels z.floats)
      st.floats z.floats w at h
  sent_before_lem false w at h = refl

  sent_buffers_lem : (d : Bool) → length (sent_buffers d p v out st.words st.floats buffers) ≡ length buffers
  unfolding sent_buffers
  sent_buffers_lem true =
      length_routed_buffers p p.sample_count v.channels v.mix_id v.splitter_id out st.words st.floats buffers q.ids q.channels z.floats
  sent_buffers_lem false = refl

-- ---- a voice that is ready

module _ {p : Params} (r : Render) (m : List ℕ) {k : ℕ} {v : Voice} {st : State} (z : Sized p st) (h : k < p.voices) (q : Playing p.voices v) (laid : Ascending (length m) 0 r.ranges) where
  -- the history that it keeps
  pub kept_long : length (history_of (played_sound (turn_material r m k v st))) ≡ 18
  unfolding history_of played_sound material_of turn_of planned_by
  kept_long =
      length_history (turn_material r m k v st) (length_sound_in k st.contexts st.history (omega (arith, z.history))) q.channels laid
      (plan_made (queue_of v) (source_of v r) (needed_by v r)).fits

  fetched_only : OnlyVoice p k st (fetched r m k v st)
  fetched_only =
      let o = only_voice z h (turn_of v r).voice in
      only_then o (only_sound o.sized h (played_sound (turn_material r m k v st)) kept_long)

  pub played_step : Shaped v → (buffers : List Float) (n : ℕ)
      → Stepped p k (turn_of v r).voice (turn_of v r).plan.rounds (studio st buffers n) (played p r m k v (studio st buffers n))
  unfolding played
  played_step s buffers n =
      let o = fetched_only in
      let u = fetched r m k v st in
      let out = ramped_out p r v (turn_material r m k v st) in
      let long = sent_long q out u o.sized buffers (destined v) in
      let before = sent_before_lem q out u o.sized buffers (destined v) in
      record {
        only = only_then o (only_floats o.sized _ long before);
        voice = voice_floats_lem o.sized _ long before k h ∙ voice_put z h (turn_shaped v r s);
        buffers = sent_buffers_lem q out u o.sized buffers (destined v);
        total = refl;
      }
