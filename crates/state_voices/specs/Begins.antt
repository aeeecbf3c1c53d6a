-- What the turn of voice k does before it fetches: what it leaves, and that the voice can take its turn. Assumes nothing.
use Rattle.std.specs.Prelude.{◌≡◌, Bool, ℕ, ◌≤◌, ◌<◌}
use Rattle.std.proofs.Math.Path.{refl}
use Rattle.std.proofs.Common.{sym, ◌∙◌, arith}
use Rattle.std.proofs.Math.Bool.{true, false}
use Rattle.params.specs.declared.params.Params.{Params}
use Rattle.state.specs.State.{State, Sized}
use Rattle.voice.specs.declared.Voice.{Voice}
use Rattle.voice.specs.declared.ready.Prepared.{Prepared}
use Rattle.row_trips.specs.Trip.{Shaped}
use Rattle.turn.specs.Turn.{takes_part, begin_of}
use Rattle.turn.specs.Begins.{begin_channels}
use Rattle.voice_sends.specs.Laws.{and_left}
use Rattle.state_voices.specs.StateVoices.{voice_in, stored_by, begun_voice, begun_state, Begun, begun_of, begun, Playing, Beginning}
use Rattle.state_voices.specs.Keeps.{OnlyVoice, only_same, only_then, only_taken, only_unready, unready_position}
use Rattle.state_voices.specs.Shapes.{begin_shaped, begin_playing, voice_shaped, voice_put}

-- the voice is prepared for its turn where it is ready, and else stored as it was prepared
pub record Begins (p : Params) (k : ℕ) (st : State) (g : Begun) : Type 0 where
  pub only : OnlyVoice p k st g.state
  pub playing : Playing p.voices g.prepared.voice
  pub shaped : Shaped g.prepared.voice
  pub some : g.prepared.ready ≡ true → 1 ≤ g.prepared.voice.channels
  pub stored : g.prepared.ready ≡ false → voice_in k g.state ≡ g.prepared.voice

no_both : {A : Type 0} → true ≡ false → A
no_both e = absurd (let z : ◌≡◌ {A = ℕ} 0 1 = cc in omega arith)

module _ {p : Params} {k : ℕ} {st : State} (z : Sized p st) (h : k < p.voices) (b : Prepared) where
  only_stored : (t : Bool) → OnlyVoice p k st (stored_by t k b st)
  unfolding stored_by
  only_stored true = only_same z
  only_stored false = only_unready z h b

  voice_stored : Shaped b.voice → (t : Bool) → t ≡ false → voice_in k (stored_by t k b st) ≡ b.voice
  unfolding stored_by
  voice_stored s true e = no_both e
  voice_stored s false e = unready_position k b st ∙ voice_put z h s

takes_used : (v : Voice) → takes_part v ≡ true → v.in_use ≡ true
unfolding takes_part
takes_used v h = and_left v.in_use _ h

module _ {p : Params} {k : ℕ} {st : State} (q : Beginning p k st) where
  by_part : (d : Bool) → takes_part (voice_in k st) ≡ d → Begins p k st (begun_of (begun_state d p k (voice_in k st) st) (begun_voice d (voice_in k st)))
  unfolding begun_state begun_voice
  by_part true e =
      let v = voice_in k st in
      let y = q.playing in
      let o = only_taken q.sized y {k = k} in
      let s = begin_shaped v (voice_shaped k st) in
      let some : 1 ≤ (begin_of v).voice.channels = rw begin_channels (y.some (takes_used v e)) in
      record {
        only = only_then o (only_stored o.sized q.inside (begin_of v) (begin_of v).ready);
        playing = begin_playing y;
        shaped = s;
        some = λ _. some;
        stored = voice_stored o.sized q.inside (begin_of v) s (begin_of v).ready;
      }
  by_part false e = record {
    only = only_same q.sized;
    playing = q.playing;
    shaped = voice_shaped k st;
    some = λ t. no_both (sym t);
    stored = λ _. refl;
  }

  pub begun_facts : Begins p k st (begun p k st)
  unfolding begun
  begun_facts = by_part (takes_part (voice_in k st)) refl
