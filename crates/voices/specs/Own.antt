-- Each voice's rows are its own: which rows step k puts, that before it they are as at entry, and that they stay as it leaves them. Assumes nothing.
use Rattle.std.specs.Prelude.{ℕ, ◌+◌, ◌*◌, ◌≤◌, ◌<◌, Bool, ◌&&◌, List, ◌≡◌, Float, length, set}
use Rattle.std.proofs.Common.{arith, ◌∙◌, length-set}
use Rattle.std.proofs.Math.Bool.{true, false, cond}
use Rattle.std.proofs.Math.Path.{refl}
use Rattle.rows.specs.Rows.{part, put, length_part}
use Rattle.rows.specs.Folds.{RowStep, up_to}
use Rattle.rows.specs.Loops.{up_to_keeps}
use Rattle.voice.specs.declared.Voice.{Voice}
use Rattle.voice.specs.Sound.{silent_sound}
use Rattle.voice_rows.specs.VoiceRow.{voice_of, words_of, longs_of, floats_of, length_words, length_longs, length_floats}
use Rattle.sound_rows.specs.SoundRow.{contexts_of, history_of, length_contexts}
use Rattle.voice_records.specs.Record.{record_used, record_new, recorded}
use Rattle.voices.specs.Voices.{VoiceRows, VoicesSized, voice_at, recorded_at, record_at, recorded_rows, unused_rows, step_by, voice_step, voices_of}
use Rattle.voices.specs.RowLaws.{set_row, length_kept, put_kept, from_zero, length_step, left_zero, done_zero}

length_silence : length (history_of silent_sound) ≡ 18
unfolding history_of silent_sound
length_silence = refl

-- ---- each list after a step, by whether the voice is in use

-- a row of words: the voice's, or only marked as not in use
abbrev pub words_row_by : Bool → Voice → List ℕ → List ℕ
words_row_by true v row = words_of v
words_row_by false v row = set row 0 0

length_words_by : (used : Bool) (v : Voice) (row : List ℕ) → length row ≡ 58 → length (words_row_by used v row) ≡ 58
length_words_by true v row h = length_words v
length_words_by false v row h = simp length-set h

module _ (revision n : ℕ) (p : List ℕ) (k : ℕ) (st : VoiceRows) where
  abbrev after : Voice
  after = recorded_at revision n p k st.words st.longs st.floats

  by_words : (used : Bool) → k * 58 + 58 ≤ length st.words
      → (step_by used revision n p k st).words ≡ put st.words (k * 58) (words_row_by used after (part 58 (k * 58) st.words))
  unfolding step_by recorded_rows unused_rows
  by_words true h = refl
  by_words false h = set_row st.words (k * 58) 58 0 (omega arith) h

  by_longs : (used : Bool) → (step_by used revision n p k st).longs ≡ cond used (put st.longs (k * 14) (longs_of after)) st.longs
  unfolding step_by recorded_rows unused_rows
  by_longs true = refl
  by_longs false = refl

  by_floats : (used : Bool) → (step_by used revision n p k st).floats ≡ cond used (put st.floats (k * 4) (floats_of after)) st.floats
  unfolding step_by recorded_rows unused_rows
  by_floats true = refl
  by_floats false = refl

  by_contexts : (used : Bool)
      → (step_by used revision n p k st).contexts ≡ cond (used && record_new p) (put st.contexts (k * 3) (contexts_of silent_sound)) st.contexts
  unfolding step_by recorded_rows unused_rows
  by_contexts true = refl
  by_contexts false = refl

  by_history : (used : Bool)
      → (step_by used revision n p k st).history ≡ cond (used && record_new p) (put st.history (k * 18) (history_of silent_sound)) st.history
  unfolding step_by recorded_rows unused_rows
  by_history true = refl
  by_history false = refl

module _ (revision n : ℕ) (d : List ℕ) where
  -- ---- the rows that step k puts

  -- voice k as its record leaves it
  abbrev pub step_voice : ℕ → VoiceRows → Voice
  step_voice k st = recorded_at revision n (record_at d k) k st.words st.longs st.floats

  -- its sound is renewed
  abbrev pub renews : ℕ → Bool
  renews k = record_used (record_at d k) && record_new (record_at d k)

  unfoldable pub words_row : ℕ → VoiceRows → List ℕ
  words_row k st = words_row_by (record_used (record_at d k)) (step_voice k st) (part 58 (k * 58) st.words)

  unfoldable pub longs_row : ℕ → VoiceRows → List ℕ
  longs_row k st = cond (record_used (record_at d k)) (longs_of (step_voice k st)) (part 14 (k * 14) st.longs)

  unfoldable pub floats_row : ℕ → VoiceRows → List Float
  floats_row k st = cond (record_used (record_at d k)) (floats_of (step_voice k st)) (part 4 (k * 4) st.floats)

  unfoldable pub contexts_row : ℕ → VoiceRows → List ℕ
  contexts_row k st = cond (renews k) (contexts_of silent_sound) (part 3 (k * 3) st.contexts)

  unfoldable pub history_row : ℕ → VoiceRows → List Float
  history_row k st = cond (renews k) (history_of silent_sound) (part 18 (k * 18) st.history)

  abbrev step : ℕ → VoiceRows → VoiceRows
  step = voice_step revision n d

  pub words_step : RowStep step (λ st. st.words) 0 58 words_row
  unfolding voice_step words_row
  words_step =
      from_zero (λ k st h. length_words_by (record_used (record_at d k)) (step_voice k st) _ (length_part 58 (k * 58) st.words h))
      (λ k st h. by_words revision n (record_at d k) k st (record_used (record_at d k)) h)

  pub longs_step : RowStep step (λ st. st.longs) 0 14 longs_row
  unfolding voice_step longs_row
  longs_step =
      from_zero (λ k st h. length_kept (record_used (record_at d k)) 14 (k * 14) _ st.longs h (length_longs (step_voice k st)))
      (λ k st h. by_longs revision n (record_at d k) k st (record_used (record_at d k)) ∙ put_kept (record_used (record_at d k)) 14 (k * 14) _ st.longs h)

  pub floats_step : RowStep step (λ st. st.floats) 0 4 floats_row
  unfolding voice_step floats_row
  floats_step =
      from_zero (λ k st h. length_kept (record_used (record_at d k)) 4 (k * 4) _ st.floats h (length_floats (step_voice k st)))
      (λ k st h. by_floats revision n (record_at d k) k st (record_used (record_at d k)) ∙ put_kept (record_used (record_at d k)) 4 (k * 4) _ st.floats h)

  pub contexts_step : RowStep step (λ st. st.contexts) 0 3 contexts_row
  unfolding voice_step contexts_row
  contexts_step =
      from_zero (λ k st h. length_kept (renews k) 3 (k * 3) _ st.contexts h (length_contexts silent_sound))
      (λ k st h. by_contexts revision n (record_at d k) k st (record_used (record_at d k)) ∙ put_kept (renews k) 3 (k * 3) _ st.contexts h)

  pub history_step_lem : RowStep step (λ st. st.history) 0 18 history_row
  unfolding voice_step history_row
  history_step_lem =
      from_zero (λ k st h. length_kept (renews k) 18 (k * 18) _ st.history h length_silence)
      (λ k st h. by_history revision n (record_at d k) k st (record_used (record_at d k)) ∙ put_kept (renews k) 18 (k * 18) _ st.history h)

  -- the lengths are kept
  pub step_sized : (k : ℕ) (st : VoiceRows) → k < n → VoicesSized n st → VoicesSized n (step k st)
  step_sized k st b h = record {
    few = h.few;
    words = length_step words_step n k st b h.words;
    longs = length_step longs_step n k st b h.longs;
    floats = length_step floats_step n k st b h.floats;
    contexts = length_step contexts_step n k st b h.contexts;
    history = length_step history_step_lem n k st b h.history;
  }

  pub voices_sized : (st : VoiceRows) → VoicesSized n st → VoicesSized n (voices_of revision d n st)
  unfolding voices_of
  voices_sized st h = up_to_keeps (VoicesSized n) step n step_sized n st (omega arith) h

  -- ---- rows before and after all steps, in terms of those at entry

  module _ (st : VoiceRows) (h : VoicesSized n st) (k : ℕ) (b : k < n) where
    abbrev before : VoiceRows
    before = up_to step k st

    pub words_left : part 58 (k * 58) before.words ≡ part 58 (k * 58) st.words
    words_left = left_zero words_step n st h.words k k (omega arith) b

    pub longs_left : part 14 (k * 14) before.longs ≡ part 14 (k * 14) st.longs
    longs_left = left_zero longs_step n st h.longs k k (omega arith) b

    pub floats_left : part 4 (k * 4) before.floats ≡ part 4 (k * 4) st.floats
    floats_left = left_zero floats_step n st h.floats k k (omega arith) b

    pub contexts_left : part 3 (k * 3) before.contexts ≡ part 3 (k * 3) st.contexts
    contexts_left = left_zero contexts_step n st h.contexts k k (omega arith) b

    pub history_left : part 18 (k * 18) before.history ≡ part 18 (k * 18) st.history
    history_left = left_zero history_step_lem n st h.history k k (omega arith) b

    -- voice k before its step is the one at entry
    pub voices_left : voice_at k before.words before.longs before.floats ≡ voice_at k st.words st.longs st.floats
    unfolding voice_at
    voices_left = λ i. voice_of (words_left i) (longs_left i) (floats_left i)

    left : step_voice k before ≡ step_voice k st
    left = λ i. recorded revision n (record_at d k) (voices_left i)

    pub words_done : part 58 (k * 58) (voices_of revision d n st).words ≡ words_row k st
    unfolding voices_of words_row
    words_done = done_zero words_step n st h.words k b ∙ (λ i. words_row_by (record_used (record_at d k)) (left i) (words_left i))

    pub longs_done : part 14 (k * 14) (voices_of revision d n st).longs ≡ longs_row k st
    unfolding voices_of longs_row
    longs_done = done_zero longs_step n st h.longs k b ∙ (λ i. cond (record_used (record_at d k)) (longs_of (left i)) (longs_left i))

    pub floats_done : part 4 (k * 4) (voices_of revision d n st).floats ≡ floats_row k st
    unfolding voices_of floats_row
    floats_done = done_zero floats_step n st h.floats k b ∙ (λ i. cond (record_used (record_at d k)) (floats_of (left i)) (floats_left i))

    pub contexts_done : part 3 (k * 3) (voices_of revision d n st).contexts ≡ contexts_row k st
    unfolding voices_of contexts_row
    contexts_done = done_zero contexts_step n st h.contexts k b ∙ (λ i. cond (renews k) (contexts_of silent_sound) (contexts_left i))

    pub history_done : part 18 (k * 18) (voices_of revision d n st).history ≡ history_row k st
    unfolding voices_of history_row
    history_done = done_zero history_step_lem n st h.history k b ∙ (λ i. cond (renews k) (history_of silent_sound) (history_left i))
