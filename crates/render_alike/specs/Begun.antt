-- What the turn of voice k does before it fetches, in two states that differ at most in sound: the voice is prepared the same, and they still do. Assumes nothing.
use Rattle.std.specs.Prelude.{◌≡◌, Bool, ℕ}
use Rattle.std.proofs.Math.Path.{refl, ap, subst}
use Rattle.std.proofs.Math.Bool.{true, false}
use Rattle.params.specs.declared.params.Params.{Params}
use Rattle.state.specs.State.{State}
use Rattle.voice.specs.declared.Voice.{Voice}
use Rattle.voice.specs.declared.ready.Prepared.{Prepared}
use Rattle.voice.specs.Sound.{silent_sound}
use Rattle.sound_rows.specs.SoundRow.{history_of}
use Rattle.turn.specs.Turn.{takes_part, begin_of}
use Rattle.state_voices.specs.StateVoices.{voice_in, fresh_floats, reset_by, stored_by, begun_voice, begun_state, begun}
use Rattle.alike.specs.Alike.{Alike}
use Rattle.render_alike.specs.Stores.{SoundRows, voice_alike, put_voice_alike, with_floats_alike, put_sound_alike}

module _ {p : Params} {P : ℕ → Type 0} (k : ℕ) where
  -- ---- what is stored

  reset_alike : {a b : State} → Alike p P a b → SoundRows k a → SoundRows k b → (t : Bool) → Alike p P (reset_by t k a) (reset_by t k b)
  unfolding reset_by history_of silent_sound
  reset_alike e i i' true = put_sound_alike e i i' silent_sound silent_sound refl refl (λ _. refl)
  reset_alike e i i' false = e

  stored_alike : {a b : State} → Alike p P a b → SoundRows k a → SoundRows k b → (q : Prepared) (t : Bool) → Alike p P (stored_by t k q a) (stored_by t k q b)
  unfolding stored_by
  stored_alike e i i' q true = e
  stored_alike e i i' q false = reset_alike (put_voice_alike e k q.voice) i i' q.reset

  -- ---- the voice and the state

  module _ {a b : State} (e : Alike p P a b) where
    pub prepared_alike : (begun p k a).prepared ≡ (begun p k b).prepared
    unfolding begun
    prepared_alike = ap (λ (v : Voice). begun_voice (takes_part v) v) (voice_alike e k)

    module _ (i : SoundRows k a) (i' : SoundRows k b) where
      by_part : (d : Bool) (v : Voice) → Alike p P (begun_state d p k v a) (begun_state d p k v b)
      unfolding begun_state
      by_part true v = stored_alike (with_floats_alike e (ap (fresh_floats v.fresh p v) e.floats)) i i' (begin_of v) (begin_of v).ready
      by_part false v = e

      pub begun_alike : Alike p P (begun p k a).state (begun p k b).state
      unfolding begun
      begun_alike =
          subst (λ (v : Voice). Alike p P (begun p k a).state (begun_state (takes_part v) p k v b)) (voice_alike e k)
          (by_part (takes_part (voice_in k a)) (voice_in k a))
