-- `update_voices` leaves every voice's row whole. Assumes nothing.
use Rattle.std.specs.Prelude.{◌≡◌, Bool, true, false, cond, List, ℕ, ◌+◌, ◌*◌, ◌≤◌, ◌<◌, Float, pos, length, get_or, set}
use Rattle.std.proofs.Common.{ap, sym, ◌∙◌, zero-add, add-zero, arith, get_or-set_same, get_or-set_other}
use Rattle.std.proofs.Math.Path.{subst}
use Rattle.std.proofs.Math.Dec.{T}
use Rattle.std.specs.Float.Ieee.{nan, le, lt, eq}
use Rattle.std.specs.Float.{fin}
use Rattle.floats.specs.Unit.{in_unit}
use Rattle.rows.specs.Rows.{part, length_part}
use Rattle.sound_rows.specs.Spelled.{part_at}
use Rattle.voice.specs.declared.Voice.{Voice}
use Rattle.voice_rows.specs.VoiceRow.{voice_of, floats_of}
use Rattle.voice_records.specs.Record.{record_used}
use Rattle.voice_records.specs.Laws.{recorded_channels, recorded_base, recorded_ids, recorded_index, recorded_fraction}
use Rattle.voices.specs.Voices.{VoiceRows, VoicesSized, voice_at, record_at, voices_of}
use Rattle.voices.specs.Own.{words_row_by, step_voice, words_row, floats_row, words_done, floats_done}
use Rattle.row_tests.specs.Voices.{VoiceWhole}
use Rattle.update_keeps.specs.VoiceRow.{row_moved, stored_whole}

-- ---- rows by themselves

-- voice k is whole where its rows are, by themselves
row_there : (n k : ℕ) (words : List ℕ) (floats : List Float) (r : List ℕ) (f : List Float)
    → part 58 (k * 58) words ≡ r → part 4 (k * 4) floats ≡ f → VoiceWhole n r f 0 → VoiceWhole n words floats k
row_there n k words floats r f ew ef =
    let word : (j : ℕ) → j < 58 → get_or words (k * 58 + j) 0 ≡ get_or r j 0 =
    λ j l. sym (part_at 58 (k * 58) words j 0 l) ∙ ap (λ (s : List ℕ). get_or s j 0) ew in
    let first : get_or words (k * 58) 0 ≡ get_or r 0 0 = rw add-zero at (word 0 (omega arith)) in
    row_moved n r words f floats 0 k (omega (arith, first)) (λ j a l. rw zero-add (word j l))
    (sym (part_at 4 (k * 4) floats 3 nan (omega arith)) ∙ ap (λ (s : List Float). get_or s 3 nan) ef)

-- those of a whole voice, marked as not in use
row_unused : (n k : ℕ) (words : List ℕ) (floats : List Float) → k * 58 + 58 ≤ length words → VoiceWhole n words floats k
    → VoiceWhole n (set (part 58 (k * 58) words) 0 0) (part 4 (k * 4) floats) 0
row_unused n k words floats fits =
    let row = part 58 (k * 58) words in
    let first : get_or (set row 0 0) 0 0 ≡ 0 = get_or-set_same row 0 0 0 (rw (length_part 58 (k * 58) words fits) (omega arith)) in
    let same : (j : ℕ) → 1 ≤ j → j < 58 → get_or (set row 0 0) (0 * 58 + j) 0 ≡ get_or words (k * 58 + j) 0 =
    λ j a l. rw zero-add (get_or-set_other row 0 j 0 0 (λ e. omega arith) ∙ part_at 58 (k * 58) words j 0 l) in
    row_moved n words (set row 0 0) floats (part 4 (k * 4) floats) k 0 (omega (arith, first)) same (part_at 4 (k * 4) floats 3 nan (omega arith))

-- ---- a voice by its record

zero_in : T (in_unit (fin false 0 (pos 0)))
unfolding le lt eq
zero_in = tt

module _ (revision n : ℕ) (d : List ℕ) (st : VoiceRows) (sized : VoicesSized n st) (k : ℕ) (b : k < n) (w : VoiceWhole n st.words st.floats k) where
  abbrev old : Voice
  old = voice_at k st.words st.longs st.floats

  old_index : old.index < 4
  unfolding voice_at voice_of
  old_index = rw (part_at 26 0 (part 58 (k * 58) st.words) 22 0 (omega arith), part_at 58 (k * 58) st.words 22 0 (omega arith)) w.index

  old_fraction : T (in_unit old.fraction)
  unfolding voice_at voice_of
  old_fraction =
      subst (λ (x : Float). T (in_unit x))
      (sym (part_at 4 0 (part 4 (k * 4) st.floats) 3 nan (omega arith) ∙ part_at 4 (k * 4) st.floats 3 nan (omega arith)))
      w.fraction

  -- whether it is in use or not
  row_whole : (used : Bool)
      → (let v = step_voice revision n d k st in
      VoiceWhole n (words_row_by used v (part 58 (k * 58) st.words)) (cond used (floats_of v) (part 4 (k * 4) st.floats)) 0)
  row_whole true =
      let p = record_at d k in
      let channels = recorded_channels revision n p old in
      stored_whole n (step_voice revision n d k st) (λ _. channels.0) channels.1 (recorded_base revision n p old) (recorded_index revision n p old old_index)
      (recorded_ids revision n p old (omega arith)) (recorded_fraction revision n p old (λ x. T (in_unit x)) zero_in old_fraction)
  row_whole false = row_unused n k st.words st.floats (omega (arith, sized.words)) w

  pub voice_kept : VoiceWhole n (voices_of revision d n st).words (voices_of revision d n st).floats k
  unfolding words_row floats_row
  voice_kept =
      row_there n k _ _ _ _ (words_done revision n d st sized k b) (floats_done revision n d st sized k b) (row_whole (record_used (record_at d k)))
