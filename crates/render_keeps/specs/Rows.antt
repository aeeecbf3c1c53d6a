-- A voice's row is whole where its marks are in range and the voice can be played. Assumes nothing.
use Rattle.std.specs.Prelude.{◌≡◌, List, [], ◌∷◌, ℕ, ◌+◌, ◌*◌, ◌<◌, Float}
use Rattle.std.proofs.Common.{ap, sym, ◌∙◌, arith, ne_eqb}
use Rattle.std.proofs.Math.Path.{subst}
use Rattle.std.proofs.Math.Bool.{not}
use Rattle.std.proofs.Math.Dec.{T}
use Rattle.std.specs.Float.{nan}
use Rattle.std.proofs.Math.ListN.{get_or}
use Rattle.rows.specs.Rows.{part}
use Rattle.rows.specs.Tables.{table, get_d_table}
use Rattle.floats.specs.Unit.{in_unit}
use Rattle.params.specs.declared.params.Params.{Params}
use Rattle.state.specs.State.{State, voice_words_in, voice_floats_in}
use Rattle.sound_rows.specs.Spelled.{part_at}
use Rattle.voice_rows.specs.VoiceRow.{voice_of}
use Rattle.row_tests.specs.Voices.{VoiceWhole}
use Rattle.state_voices.specs.StateVoices.{Playable, voice_on}
use Rattle.whole_rows.specs.Marks.{Marks}
use Rattle.render_keeps.specs.Marks.{row_in}

six_at : (f : ℕ → ℕ) (k : ℕ) → k < 6 → get_or (f 0 ∷ f 1 ∷ f 2 ∷ f 3 ∷ f 4 ∷ f 5 ∷ []) k 0 ≡ f k
unfolding table
six_at f k = get_d_table 6 f k 0

module _ (p : Params) (st : State) (j : ℕ) (inside : j < p.voices) where
  abbrev row : List ℕ
  row = row_in j st.words

  abbrev words : List ℕ
  words = voice_words_in p st.words

  -- word k of voice j, at place i of the voices' words; and one before those of the wave buffers
  word : (i k : ℕ) → i ≡ j * 58 + k → k < 58 → get_or words i 0 ≡ get_or row k 0
  word i k e h =
      let q : 10 + i ≡ 10 + j * 58 + k = omega arith in
      part_at (p.voices * 58) 10 st.words i 0 (omega arith)
      ∙ ap (λ (a : ℕ). get_or st.words a 0) q
      ∙ sym (part_at 58 (10 + j * 58) st.words k 0 h)

  head : (i k : ℕ) → i ≡ j * 58 + k → k < 26 → get_or words i 0 ≡ get_or (part 26 0 row) k 0
  head i k e h =
      let z : 0 + k ≡ k = omega arith in
      word i k e (omega arith) ∙ sym (part_at 26 0 row k 0 h ∙ ap (λ (a : ℕ). get_or row a 0) z)

  -- word c of wave buffer b
  wave : (b c : ℕ) → b < 4 → c < 8 → get_or words (j * 58 + 26 + b * 8 + c) 0 ≡ get_or row (26 + b * 8 + c) 0
  wave b c h l = word (j * 58 + 26 + b * 8 + c) (26 + b * 8 + c) (omega arith) (omega arith)

  fraction_at : get_or (voice_floats_in p st.floats) (j * 4 + 3) nan ≡ get_or (part 4 0 (part 4 (j * 4) st.floats)) 3 nan
  fraction_at =
      let e : 0 + (j * 4 + 3) ≡ j * 4 + (0 + 3) = omega arith in
      part_at (p.voices * 4) 0 st.floats (j * 4 + 3) nan (omega arith)
      ∙ ap (λ (i : ℕ). get_or st.floats i nan) e
      ∙ sym (part_at 4 0 (part 4 (j * 4) st.floats) 3 nan (omega arith) ∙ part_at 4 (j * 4) st.floats (0 + 3) nan (omega arith))

  pub row_marks : VoiceWhole p.voices words (voice_floats_in p st.floats) j → Marks row
  row_marks w = record {
    used = rw (← word (j * 58) 0 (omega arith) (omega arith)) w.used;
    fresh = rw (← word (j * 58 + 1) 1 (omega arith) (omega arith)) w.fresh;
    play = rw (← word (j * 58 + 2) 2 (omega arith) (omega arith)) w.play;
    valid = λ k h. rw (← word (j * 58 + 18 + k) (18 + k) (omega arith) (omega arith)) (w.valid k h);
    looping = λ b h. rw (← wave b 2 h (omega arith)) (w.looping b h);
    end_of_stream = λ b h. rw (← wave b 3 h (omega arith)) (w.end_of_stream b h);
    pending = λ b h. rw (← wave b 7 h (omega arith)) (w.pending b h);
  }

  pub row_whole : Marks row → Playable p j st → VoiceWhole p.voices words (voice_floats_in p st.floats) j
  unfolding voice_on voice_of
  row_whole m y =
      let used = head (j * 58) 0 (omega arith) (omega arith) in
      record {
        used = rw (word (j * 58) 0 (omega arith) (omega arith)) m.used;
        fresh = rw (word (j * 58 + 1) 1 (omega arith) (omega arith)) m.fresh;
        play = rw (word (j * 58 + 2) 2 (omega arith) (omega arith)) m.play;
        channels = rw (head (j * 58 + 5) 5 (omega arith) (omega arith)) y.channels;
        some_channel_lem = λ n. rw (head (j * 58 + 5) 5 (omega arith) (omega arith)) (y.some (ap not (ne_eqb _ 0 (λ z. n (used ∙ z)))));
        base_index = rw (head (j * 58 + 7) 7 (omega arith) (omega arith)) y.base;
        ids = λ k h.
            rw (head (j * 58 + 12 + k) (12 + k) (omega arith) (omega arith), ← six_at (λ (i : ℕ). get_or (part 26 0 row) (12 + i) 0) k h) (y.ids.each k h);
        valid = λ k h. rw (word (j * 58 + 18 + k) (18 + k) (omega arith) (omega arith)) (m.valid k h);
        index = rw (head (j * 58 + 22) 22 (omega arith) (omega arith)) y.index;
        looping = λ b h. rw (wave b 2 h (omega arith)) (m.looping b h);
        end_of_stream = λ b h. rw (wave b 3 h (omega arith)) (m.end_of_stream b h);
        pending = λ b h. rw (wave b 7 h (omega arith)) (m.pending b h);
        fraction = subst (λ (x : Float). T (in_unit x)) (sym fraction_at) y.fraction;
      }
