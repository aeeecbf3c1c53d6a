-- What the functions leave is what the definitions say. Assumes nothing.
use Rattle.std.specs.Prelude.{◌≡◌, Bool, true, false, List, ℕ, ◌+◌, ◌*◌, ◌≤◌, Float, length}
use Rattle.std.proofs.Math.Path.{refl}
use Rattle.std.proofs.Common.{ap, sym, subst, ◌∙◌}
use Rattle.rows.specs.Rows.{part, put, length_part}
use Rattle.rows.specs.Lent.{lent, returned, part_cut, returned_is}
use Rattle.params.specs.declared.params.Params.{Params}
use Rattle.state.specs.State.{State, state_of, resource_floats, resources_in}
use Rattle.voice.specs.declared.Voice.{Voice}
use Rattle.voice.specs.declared.ready.Prepared.{Prepared}
use Rattle.voice.specs.Sound.{silent_sound}
use Rattle.voice_rows.specs.VoiceRow.{words_of, longs_of, floats_of}
use Rattle.sound_rows.specs.SoundRow.{contexts_of, history_of}
use Rattle.turn.specs.Turn.{takes_part, begin_of}
use Rattle.voice_sends.specs.Sending.{Ids, taken_over}
use Rattle.voice_sends.specs.Laws.{length_taken_over}
use Rattle.state_voices.specs.StateVoices.{voice_in, put_voice, with_floats, fresh_floats, reset_by, unready, stored_by, begun_voice, begun_state, begun, Playing}

-- ---- the resources of a fresh voice

-- lent as `&mut floats[a..a + n * 48]`
pub taken_back : {n : ℕ} {ids : List ℕ} → Ids n ids → (channels a : ℕ) (floats : List Float) {r : List Float} → channels ≤ 6 → a + n * 48 ≤ length floats
    → r ≡ taken_over ids channels (lent floats a (n * 48)) → returned floats a (n * 48) r ≡ put floats a (taken_over ids channels (part (n * 48) a floats))
taken_back {n} {ids} p channels a floats {r} few fits e =
    let q = e ∙ ap (taken_over ids channels) (part_cut floats a (n * 48)) in
    let z = length_part (n * 48) a floats fits in
    returned_is floats a (n * 48) fits q (length_taken_over p channels _ few z ∙ z)

-- by whether the voice is fresh
module _ (p : Params) (v : Voice) (floats : List Float) where
  pub fresh_taken : {b : Bool} {r : List Float} → b ≡ true → r ≡ put floats (resource_floats p) (taken_over v.channel_ids v.channels (resources_in p floats))
      → r ≡ fresh_floats b p v floats
  unfolding fresh_floats
  fresh_taken h e = rw h e

  pub not_fresh : {b : Bool} → b ≡ false → floats ≡ fresh_floats b p v floats
  unfolding fresh_floats
  not_fresh h = rw h refl

-- ---- a voice that is not ready

module _ (k : ℕ) (b : Prepared) (st : State) {w l : List ℕ} {f : List Float} (ew : w ≡ put st.words (10 + k * 58) (words_of b.voice))
    (el : l ≡ put st.longs (1 + k * 14) (longs_of b.voice)) (ef : f ≡ put st.floats (k * 4) (floats_of b.voice)) where
  pub unready_reset : {c : List ℕ} {h : List Float} → b.reset ≡ true → c ≡ put st.contexts (k * 3) (contexts_of silent_sound) → h ≡ put st.history (k * 18) (history_of silent_sound)
      → state_of w l f c h ≡ unready k b st
  unfolding reset_by
  unready_reset e ec eh = (λ i. state_of (ew i) (el i) (ef i) (ec i) (eh i)) ∙ (λ i. reset_by (sym e i) k (put_voice k b.voice st))

  pub unready_kept : b.reset ≡ false → state_of w l f st.contexts st.history ≡ unready k b st
  unfolding reset_by
  unready_kept e = (λ i. state_of (ew i) (el i) (ef i) st.contexts st.history) ∙ (λ i. reset_by (sym e i) k (put_voice k b.voice st))

-- ---- what a turn does before it fetches

-- what a turn asks of voice k holds of the voice that was loaded
pub loaded_playing : {n : ℕ} {v w : Voice} → v ≡ w → Playing n w → Playing n v
loaded_playing {n} e = subst (Playing n) (sym e)

module _ (k : ℕ) (b : Prepared) (st : State) where
  pub stored_ready : b.ready ≡ true → st ≡ stored_by b.ready k b st
  unfolding stored_by
  stored_ready e = λ i. stored_by (sym e i) k b st

  pub stored_unready : {u : State} → b.ready ≡ false → u ≡ unready k b st → u ≡ stored_by b.ready k b st
  unfolding stored_by
  stored_unready e h = h ∙ (λ i. stored_by (sym e i) k b st)

module _ (p : Params) (k : ℕ) (st : State) {v : Voice} {d : Bool} (ev : v ≡ voice_in k st) (ed : d ≡ takes_part v) where
  begun_by : {t : Bool} → d ≡ t → record { state = begun_state t p k v st; prepared = begun_voice t v } ≡ begun p k st
  unfolding begun
  begun_by h =
      (λ i. record { state = begun_state ((sym h ∙ ed) i) p k v st; prepared = begun_voice ((sym h ∙ ed) i) v })
      ∙ (λ i. record { state = begun_state (takes_part (ev i)) p k (ev i) st; prepared = begun_voice (takes_part (ev i)) (ev i) })

  pub begun_part : {f : List Float} {b : Prepared} {u : State} → d ≡ true → f ≡ fresh_floats v.fresh p v st.floats → b ≡ begin_of v
      → u ≡ stored_by b.ready k b (with_floats f st) → record { state = u; prepared = b } ≡ begun p k st
  unfolding begun_state begun_voice
  begun_part h ef eb eu =
      let u' = eu ∙ (λ i. stored_by (eb i).ready k (eb i) (with_floats (ef i) st)) in
      (λ i. record { state = u' i; prepared = eb i }) ∙ begun_by h

  pub begun_none : d ≡ false → record { state = st; prepared = record { voice = v; ready = false; reset = false } } ≡ begun p k st
  unfolding begun_state begun_voice
  begun_none h = begun_by h
