-- A whole state can be rendered. Assumes nothing.
use Rattle.std.specs.Prelude.{◌≡◌, ℕ, zero, suc, ◌+◌, ◌*◌, ◌<◌, ◌≤◌, true, false, not, T, List, [], ◌∷◌, length, get_or, ◌≢◌, slice_index, slice_index_or, refl, Float}
use Rattle.std.proofs.Math.Path.{ap, subst}
use Rattle.std.proofs.Common.{sym, ◌∙◌, true≢false, eq-eqb}
use native.Mathlib.Omega.{arith}
use Rattle.std.specs.Float.{nan}
use Rattle.rows.specs.Rows.{part}
use Rattle.floats.specs.Unit.{in_unit}
use Rattle.params.specs.declared.params.Params.{Params}
use Rattle.state.specs.State.{State, params_in, voice_words_in, voice_floats_in}
use Rattle.sound_rows.specs.Spelled.{part_at}
use Rattle.voice_rows.specs.WaveRow.{flag_of}
use Rattle.voice_rows.specs.VoiceRow.{voice_of}
use Rattle.voice_sends.specs.Sending.{Ids}
use Rattle.ranges.specs.Ranges.{Range}
use Rattle.ranges.specs.Ascending.{Ascending}
use Rattle.row_tests.specs.Voices.{VoiceWhole}
use Rattle.whole.specs.Whole.{Whole}
use Rattle.state_voices.specs.StateVoices.{Playable, voice_on}
use Rattle.voice_turn.specs.Asks.{Renderable}
use Rattle.render_turns.specs.Turns.{Playing}
use Rattle.render.specs.Render.{render_of}

-- a flag that is set is no 0
set_flag : (w : ℕ) → flag_of w ≡ true → w ≢ 0
set_flag w h e = true≢false (sym h ∙ ap not (eq-eqb w 0 e))

-- six numbers one by one
each_of_six : (f : ℕ → ℕ) (n : ℕ) → ((k : ℕ) → k < 6 → f k < n) → (k : ℕ) → k < 6 → slice_index (f 0 ∷ f 1 ∷ f 2 ∷ f 3 ∷ f 4 ∷ f 5 ∷ []) k < n
each_of_six f n h zero l = h 0 l
each_of_six f n h (suc zero) l = h 1 l
each_of_six f n h (suc (suc zero)) l = h 2 l
each_of_six f n h (suc (suc (suc zero))) l = h 3 l
each_of_six f n h (suc (suc (suc (suc zero)))) l = h 4 l
each_of_six f n h (suc (suc (suc (suc (suc zero))))) l = h 5 l
each_of_six f n h (suc (suc (suc (suc (suc (suc k)))))) l = absurd (omega arith)

module _ (p : Params) (st : State) (j : ℕ) (inside : j < p.voices) where
  -- word k of voice j, before those of its wave buffers; and float k
  word : (k : ℕ) → k < 26 → slice_index (part 26 0 (part 58 (10 + j * 58) st.words)) k ≡ slice_index (voice_words_in p st.words) (j * 58 + k)
  word k h =
      let e : 10 + j * 58 + (0 + k) ≡ 10 + (j * 58 + k) = omega arith in
      part_at 26 0 (part 58 (10 + j * 58) st.words) k 0 h
      ∙ part_at 58 (10 + j * 58) st.words (0 + k) 0 (omega arith)
      ∙ ap (λ (i : ℕ). slice_index st.words i) e
      ∙ sym (part_at (p.voices * 58) 10 st.words (j * 58 + k) 0 (omega arith))

  float : (k : ℕ) → k < 4 → slice_index_or (part 4 0 (part 4 (j * 4) st.floats)) k nan ≡ slice_index_or (voice_floats_in p st.floats) (j * 4 + k) nan
  float k h =
      let e : j * 4 + (0 + k) ≡ 0 + (j * 4 + k) = omega arith in
      part_at 4 0 (part 4 (j * 4) st.floats) k nan h
      ∙ part_at 4 (j * 4) st.floats (0 + k) nan (omega arith)
      ∙ ap (λ (i : ℕ). get_or st.floats i nan) e
      ∙ sym (part_at (p.voices * 4) 0 st.floats (j * 4 + k) nan (omega arith))

  pub playable : p.voices ≤ 64 → VoiceWhole p.voices (voice_words_in p st.words) (voice_floats_in p st.floats) j → Playable p j st
  unfolding voice_on voice_of
  playable few w =
      let first : j * 58 + 0 ≡ j * 58 = omega arith in
      let used = word 0 (omega arith) ∙ ap (λ (i : ℕ). slice_index (voice_words_in p st.words) i) first in
      record {
        index = rw (word 22 (omega arith)) w.index;
        base = rw (word 7 (omega arith)) w.base_index;
        channels = rw (word 5 (omega arith)) w.channels;
        some = λ e. rw (word 5 (omega arith)) (w.some_channel_lem (λ (z : get_or (voice_words_in p st.words) (j * 58) 0 ≡ 0). set_flag _ e (used ∙ z)));
        ids = record {
          few = few;
          each = each_of_six (λ k. slice_index (part 26 0 (part 58 (10 + j * 58) st.words)) (12 + k)) p.voices
              (λ k h.
              let e : j * 58 + (12 + k) ≡ j * 58 + 12 + k = omega arith in
              rw (word (12 + k) (omega arith), e) (w.ids k h));
        };
        fraction = subst (λ (x : Float). T (in_unit x)) (sym (float 3 (omega arith))) w.fraction;
      }

pub whole_playing : (st : State) → Whole st → (rs : List Range) (m : List ℕ) → Ascending (length m) 0 rs
    → Playing (params_in st) (render_of (params_in st) rs) m 0 st
unfolding render_of
whole_playing st h rs m laid = record {
  desk = record { allowed = h.allowed; sized = h.sized; mixes = h.mixes; lists = h.lists; samples = refl; memory = laid };
  voices = λ j l b. playable (params_in st) st j b h.allowed.voices (h.voices j b);
}
