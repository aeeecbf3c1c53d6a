-- An update whose record for a voice is not in use puts the voice out of use, and that is all. Assumes nothing.
use mathlib.Core.Path.{◌≡◌, refl, ap, sym, subst, ◌∙◌}
use mathlib.Core.Bool.{Bool, true, false, cond}
use mathlib.Core.List.{List}
use Prim.Native.Nat.{ℕ, ◌<◌}
use native.Mathlib.Omega.{arith}
use lib.ListN.{length}
use Rattle.params.specs.declared.params.Params.{Params}
use Rattle.params.specs.Sizes.{revision_of}
use Rattle.state.specs.State.{State, params_in}
use Rattle.whole.specs.Whole.{Whole}
use Rattle.voice.specs.declared.Voice.{Voice}
use Rattle.voice_records.specs.Record.{record_used, recorded}
use Rattle.voices.specs.Voices.{voice_record}
use Rattle.updates.specs.Update.{updated}
use Rattle.state_voices.specs.StateVoices.{voice_in}
use Rattle.update_alike.specs.VoiceAfter.{out_of_use, voice_after}
use Rattle.update_alike.proofs.Updated.{updated_voice}
use Rattle.calls.specs.Calls.{UpdateOutcome, update_done}
use Rattle.secrecy.specs.Sessions.{update, after, said}
use Rattle.secrecy.specs.Updates.{room_by, update_is}
use Rattle.merging_plays.specs.Plays.{in_use, PutsOut}

-- what such a record makes of a voice
puts_out : (p : Params) (e : List ℕ) (v : Voice) → record_used e ≡ false → voice_after p e v ≡ out_of_use v
unfolding voice_after
puts_out p e v u = λ i. cond (u i) (recorded (revision_of p) p.voices e v) (out_of_use v)

module _ (st : State) where
  -- an outcome that succeeds has what an update makes of the state
  abbrev Leaves : List ℕ → UpdateOutcome → Type 0
  Leaves input o = o.number ≡ 0 → o.state ≡ updated (params_in st) input st

  by_room : (expected : ℕ) (input reply : List ℕ) (room : Bool) → Leaves input (room_by room st expected input reply)
  unfolding room_by update_done
  by_room expected input reply true e = refl
  by_room expected input reply false e = absurd (omega arith)

  module _ (w : Whole st) where
    update_leaves : (expected : ℕ) (input reply : List ℕ) → (said st (update expected input reply)).number ≡ 0
        → after st (update expected input reply) ≡ updated (params_in st) input st
    update_leaves expected input reply =
        subst (Leaves input) (sym (update_is st w expected input reply)) (by_room expected input reply _)

    pub unused_puts : (k : ℕ) → k < (params_in st).voices → (input : List ℕ) → 0 < length input → in_use k input ≡ false → PutsOut st k input
    unused_puts k l input some u expected reply e =
        ap (voice_in k) (update_leaves expected input reply e)
        ∙ updated_voice (params_in st) w.allowed input some w.sized k l
        ∙ puts_out (params_in st) (voice_record input k) (voice_in k st) u
