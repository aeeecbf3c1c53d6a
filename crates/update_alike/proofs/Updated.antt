-- A voice after an update is what its own record makes of it, whatever else the input and the state hold. Assumes nothing.
use mathlib.Core.Path.{◌≡◌, refl, ap, sym, ◌∙◌}
use mathlib.Core.Bool.{Bool, true, false, cond}
use mathlib.Core.List.{List, [], ◌∷◌, append-nil}
use Prim.Native.Nat.{ℕ, ◌+◌, ◌*◌, ◌≤◌, ◌<◌}
use native.Mathlib.Nat.{zero-add}
use native.Mathlib.Omega.{arith}
use lib.Ieee.{Float}
use lib.ListN.{length, set}
use Rattle.rows.specs.Rows.{part, put, length_part, length_put, put_part}
use Rattle.params.specs.declared.params.Params.{Params}
use Rattle.params.specs.declared.sections.Sections.{Sections}
use Rattle.params.specs.Sections.{sections_of, voices_section, resources_section}
use Rattle.params.specs.Sizes.{Allowed, revision_of}
use Rattle.state.specs.State.{State, Sized, resource_floats, mix_floats, sink_floats, destination_floats}
use Rattle.voice.specs.declared.Voice.{Voice}
use Rattle.voice_rows.specs.VoiceRow.{voice_of, words_of, longs_of, floats_of}
use Rattle.row_trips.specs.Trip.{Shaped, voice_again}
use Rattle.voice_records.specs.Record.{record_used, record_new, new_voice, renewed, filled, recorded, ids_of, recorded_buffers}
use Rattle.desk.specs.Channels.{length_channels}
use Rattle.desk_updates.specs.DeskUpdate.{resources_at}
use Rattle.voices.specs.Voices.{VoiceRows, VoicesSized, voice_at, voice_record, voices_of}
use Rattle.voices.specs.Own.{words_row_by, words_row, longs_row, floats_row, voices_sized}
use Rattle.voices.specs.Own.{words_left, voices_left, longs_done, floats_done}
use Rattle.updates.specs.Update.{Desk, with_lists, with_mixes, with_sinks, after_desk}
use Rattle.updates.specs.Update.{with_resources, voice_rows_in, with_voices, after_voices, changed, updated}
use Rattle.state_voices.specs.StateVoices.{voice_on, voice_in}
use Rattle.state_voices.specs.Shapes.{voice_shaped}
use Rattle.update_alike.specs.Found.{rows_before}
use Rattle.update_alike.specs.Rows.{row_among, put_behind, puts_behind}
use Rattle.update_alike.specs.Live.{words_row_lem}
use Rattle.update_alike.specs.VoiceAfter.{out_of_use, voice_after}

-- ---- a row and its voice

-- only marked as not in use
unused_row : (row l : List ℕ) (f : List Float) → voice_of (set row 0 0) l f ≡ out_of_use (voice_of row l f)
unfolding voice_of part
unused_row [] l f = refl
unused_row (x ∷ row) l f = refl

stored_row : (v : Voice) → Shaped v → voice_of (words_of v) (longs_of v) (floats_of v) ≡ v
stored_row v s =
    (λ i. voice_of (sym (append-nil (words_of v)) i) (sym (append-nil (longs_of v)) i) (sym (append-nil (floats_of v)) i))
    ∙ voice_again v s [] [] []

-- by whether the record is in use, with v the voice as recorded
row_by : (used : Bool) (v : Voice) → Shaped v → (row l : List ℕ) (f : List Float)
    → voice_of (words_row_by used v row) (cond used (longs_of v) l) (cond used (floats_of v) f) ≡ cond used v (out_of_use (voice_of row l f))
row_by true v s row l f = stored_row v s
row_by false v s row l f = unused_row row l f

-- a recorded voice keeps the lengths of its arrays
shaped_by : (revision n : ℕ) (e : List ℕ) (new : Bool) (v : Voice) → Shaped v → Shaped (filled revision n e (renewed new v))
unfolding filled renewed new_voice ids_of recorded_buffers
shaped_by revision n e true v s = record { ids = refl; buffers = refl; valid = refl }
shaped_by revision n e false v s = record { ids = refl; buffers = refl; valid = s.valid }

recorded_shaped : (revision n : ℕ) (e : List ℕ) (v : Voice) → Shaped v → Shaped (recorded revision n e v)
unfolding recorded
recorded_shaped revision n e v s = shaped_by revision n e (record_new e) v s

-- ---- rows among rows

-- a row of some rows of a list is a row of the list
row_of_rows {ℓ} : {A : Type ℓ} (s : List A) (a w' w b : ℕ) → a + w' ≤ length s → b + w ≤ w' → part w b (part w' a s) ≡ part w (a + b) s
row_of_rows s a w' w b fits inside =
    let l = length_part w' a s fits in
    sym (row_among s a (part w' a s) w b (omega (arith, l)) (omega arith)) ∙ ap (part w (a + b)) (put_part w' a s fits)

-- the splitters, mixes and sinks leave the floats that stand before theirs
desk_floats_lem : (p : Params) (s : Sections) (input : List ℕ) (k : Desk) (w b : ℕ) → b + w ≤ mix_floats p → b + w ≤ length k.floats
    → part w b (after_desk p s input k).floats ≡ part w b k.floats
unfolding after_desk with_sinks with_mixes with_lists
desk_floats_lem p s input k w b h l =
    puts_behind w b k.floats (destination_floats p) (mix_floats p) (sink_floats p) _ _ _ (omega arith) h (omega arith) l

-- ---- voice k of the state

module _ (p : Params) (a : Allowed p) (input : List ℕ) {st : State} (z : Sized p st) (k : ℕ) (h : k < p.voices) where
  abbrev n : ℕ
  n = p.voices

  abbrev e : List ℕ
  e = voice_record input k

  -- the rows that `update_voices` finds
  abbrev found : VoiceRows
  found = rows_before p input st

  -- the floats once the channel resources are stored
  abbrev stored : List Float
  stored = put st.floats (resource_floats p) (resources_at (resources_section input) n (resource_floats p) st.floats)

  stored_long : length stored ≡ length st.floats
  stored_long =
      let rows = length_part (n * 48) (resource_floats p) st.floats (omega (arith, z.floats)) in
      let made : length (resources_at (resources_section input) n (resource_floats p) st.floats) ≡ n * 48 =
      length_channels (resources_section input) n (part (n * 48) (resource_floats p) st.floats) rows in
      length_put st.floats (resource_floats p) (resources_at (resources_section input) n (resource_floats p) st.floats)
      (omega (arith, z.floats, made))

  sized : VoicesSized n found
  unfolding with_resources
  sized = record {
    few = a.voices;
    words = length_part (n * 58) 10 st.words (omega (arith, z.words));
    longs = length_part (n * 14) 1 st.longs (omega (arith, z.longs));
    floats = length_part (n * 4) 0 stored (omega (arith, stored_long, z.floats));
    contexts = z.contexts;
    history = z.history;
  }

  -- and what it leaves
  abbrev left : VoiceRows
  left = voices_of (revision_of p) (voices_section input) n found

  left_sized : VoicesSized n left
  left_sized = voices_sized (revision_of p) n (voices_section input) found sized

  -- ---- voice k as it is found is the one of the state

  found_words : part 58 (k * 58) found.words ≡ part 58 (10 + k * 58) st.words
  unfolding with_resources
  found_words = row_of_rows st.words 10 (n * 58) 58 (k * 58) (omega (arith, z.words)) (omega arith)

  found_longs : part 14 (k * 14) found.longs ≡ part 14 (1 + k * 14) st.longs
  unfolding with_resources
  found_longs = row_of_rows st.longs 1 (n * 14) 14 (k * 14) (omega (arith, z.longs)) (omega arith)

  found_floats : part 4 (k * 4) found.floats ≡ part 4 (k * 4) st.floats
  unfolding with_resources
  found_floats =
      rw zero-add at (row_of_rows stored 0 (n * 4) 4 (k * 4) (omega (arith, stored_long, z.floats)) (omega arith))
      ∙ (put_behind 4 (k * 4) st.floats st.floats (resource_floats p) _ (omega arith)
      (record { row = refl; inside = omega (arith, z.floats) })).row

  found_voice : voice_at k found.words found.longs found.floats ≡ voice_in k st
  unfolding voice_at voice_on
  found_voice = λ i. voice_of (found_words i) (found_longs i) (found_floats i)

  -- ---- its rows after the update, by whether its record is in use, with `made` the voice as recorded

  abbrev made : Voice
  made = recorded (revision_of p) n e (voice_in k st)

  words_after : part 58 (10 + k * 58) (changed p input st).words ≡ words_row_by (record_used e) made (part 58 (10 + k * 58) st.words)
  unfolding words_row
  words_after =
      let v = voices_left (revision_of p) n (voices_section input) found sized k h ∙ found_voice in
      let row = words_left (revision_of p) n (voices_section input) found sized k h ∙ found_words in
      words_row_lem p input z k h ∙ (λ i. words_row_by (record_used e) (recorded (revision_of p) n e (v i)) (row i))

  longs_after : part 14 (1 + k * 14) (changed p input st).longs ≡ cond (record_used e) (longs_of made) (part 14 (1 + k * 14) st.longs)
  unfolding changed after_voices with_voices with_resources voice_rows_in longs_row
  longs_after =
      row_among st.longs 1 left.longs 14 (k * 14) (omega (arith, left_sized.longs)) (omega (arith, z.longs))
      ∙ longs_done (revision_of p) n (voices_section input) found sized k h
      ∙ (λ i. cond (record_used e) (longs_of (recorded (revision_of p) n e (found_voice i))) (found_longs i))

  floats_after : part 4 (k * 4) (changed p input st).floats ≡ cond (record_used e) (floats_of made) (part 4 (k * 4) st.floats)
  unfolding changed after_voices with_voices with_resources voice_rows_in floats_row
  floats_after =
      let all = length_put stored 0 left.floats (omega (arith, left_sized.floats, stored_long, z.floats)) in
      desk_floats_lem p (sections_of input) input _ 4 (k * 4) (omega arith) (omega (arith, all, stored_long, z.floats))
      ∙ rw zero-add at (row_among stored 0 left.floats 4 (k * 4) (omega (arith, left_sized.floats)) (omega arith))
      ∙ floats_done (revision_of p) n (voices_section input) found sized k h
      ∙ (λ i. cond (record_used e) (floats_of (recorded (revision_of p) n e (found_voice i))) (found_floats i))

  pub changed_voice : voice_in k (changed p input st) ≡ voice_after p e (voice_in k st)
  unfolding voice_on voice_after
  changed_voice =
      (λ i. voice_of (words_after i) (longs_after i) (floats_after i))
      ∙ row_by (record_used e) made (recorded_shaped (revision_of p) n e (voice_in k st) (voice_shaped k st)) _ _ _

-- an update with at least one byte
pub updated_voice : (p : Params) → Allowed p → (input : List ℕ) → 0 < length input → {st : State} → Sized p st → (k : ℕ) → k < p.voices
    → voice_in k (updated p input st) ≡ voice_after p (voice_record input k) (voice_in k st)
unfolding updated
updated_voice p a [] some z k h = absurd (omega arith)
updated_voice p a (b ∷ bs) some z k h = changed_voice p a (b ∷ bs) z k h
