-- One voice's row: it is whole where its words are those of a whole one, and where a voice in range is stored. Assumes nothing.
use Rattle.std.specs.Prelude.{◌≡◌, refl, Bool, true, false, List, ℕ, zero, suc, ◌+◌, ◌*◌, ◌≤◌, ◌<◌, T, Float, get_or}
use Rattle.std.proofs.Common.{sym, subst, add_assoc, arith}
use Rattle.std.specs.Float.{nan}
use Rattle.floats.specs.Unit.{in_unit}
use Rattle.voice.specs.declared.Voice.{Voice}
use Rattle.voice_rows.specs.WaveRow.{word_of_flag, words_of_wave}
use Rattle.voice_rows.specs.VoiceRow.{head_of, words_of, floats_of}
use Rattle.row_tests.specs.Voices.{VoiceWhole}
use Rattle.whole_rows.specs.Marks.{marks_stored}

-- ---- a row with the words of another

-- the same words and fraction, but that the row may be marked as not in use
module _ (n : ℕ) (words words' : List ℕ) (floats floats' : List Float) (i i' : ℕ)
    (first : get_or words' (i' * 58) 0 ≤ get_or words (i * 58) 0)
    (same : (j : ℕ) → 1 ≤ j → j < 58 → get_or words' (i' * 58 + j) 0 ≡ get_or words (i * 58 + j) 0)
    (fraction : get_or floats' (i' * 4 + 3) nan ≡ get_or floats (i * 4 + 3) nan) where
  -- word a + k, and word k of wave buffer b
  later : (a k : ℕ) → 1 ≤ a → a + k < 58 → get_or words' (i' * 58 + a + k) 0 ≡ get_or words (i * 58 + a + k) 0
  later a k h l = rw (add_assoc (i' * 58) a k, add_assoc (i * 58) a k) (same (a + k) (omega arith) l)

  wave : (b k : ℕ) → b < 4 → k < 8 → get_or words' (i' * 58 + 26 + b * 8 + k) 0 ≡ get_or words (i * 58 + 26 + b * 8 + k) 0
  wave b k h l = rw (add_assoc (i' * 58) 26 (b * 8), add_assoc (i * 58) 26 (b * 8)) (later (26 + b * 8) k (omega arith) (omega arith))

  pub row_moved : VoiceWhole n words floats i → VoiceWhole n words' floats' i'
  row_moved w = record {
    used = omega (arith, first, w.used);
    fresh = rw (same 1 (omega arith) (omega arith)) w.fresh;
    play = rw (same 2 (omega arith) (omega arith)) w.play;
    channels = rw (same 5 (omega arith) (omega arith)) w.channels;
    some_channel_lem = λ ne. rw (same 5 (omega arith) (omega arith)) (w.some_channel_lem (λ (z : get_or words (i * 58) 0 ≡ 0). ne (omega (arith, first))));
    base_index = rw (same 7 (omega arith) (omega arith)) w.base_index;
    ids = λ k h. rw (later 12 k (omega arith) (omega arith)) (w.ids k h);
    valid = λ k h. rw (later 18 k (omega arith) (omega arith)) (w.valid k h);
    index = rw (same 22 (omega arith) (omega arith)) w.index;
    looping = λ b h. rw (wave b 2 h (omega arith)) (w.looping b h);
    end_of_stream = λ b h. rw (wave b 3 h (omega arith)) (w.end_of_stream b h);
    pending = λ b h. rw (wave b 7 h (omega arith)) (w.pending b h);
    fraction = subst (λ (x : Float). T (in_unit x)) (sym fraction) w.fraction;
  }

-- ---- the row of a voice

flag_set : (b : Bool) → (word_of_flag b ≡ 0 → ⊥) → b ≡ true
flag_set true h = refl
flag_set false h = absurd (h refl)

each_of_six : (P : ℕ → Type 0) → P 0 → P 1 → P 2 → P 3 → P 4 → P 5 → (k : ℕ) → k < 6 → P k
each_of_six P a b c d e f zero h = a
each_of_six P a b c d e f (suc zero) h = b
each_of_six P a b c d e f (suc (suc zero)) h = c
each_of_six P a b c d e f (suc (suc (suc zero))) h = d
each_of_six P a b c d e f (suc (suc (suc (suc zero)))) h = e
each_of_six P a b c d e f (suc (suc (suc (suc (suc zero))))) h = f
each_of_six P a b c d e f (suc (suc (suc (suc (suc (suc k)))))) h = absurd (omega arith)

-- a voice whose numbers are in range, with channel ids of n resources
pub stored_whole : (n : ℕ) (v : Voice) → (v.in_use ≡ true → 1 ≤ v.channels) → v.channels ≤ 6 → v.base_index < 4 → v.index < 4
    → ((k : ℕ) → k < 6 → get_or v.channel_ids k 0 < n) → T (in_unit v.fraction) → VoiceWhole n (words_of v) (floats_of v) 0
unfolding words_of floats_of head_of words_of_wave
stored_whole n v some channels base index ids fraction =
    let words = words_of v in
    let marks = marks_stored v in
    record {
      used = marks.used;
      fresh = marks.fresh;
      play = marks.play;
      channels = channels;
      some_channel_lem = λ ne. some (flag_set v.in_use ne);
      base_index = base;
      ids = each_of_six (λ k. get_or words (12 + k) 0 < n)
          (ids 0 (omega arith)) (ids 1 (omega arith)) (ids 2 (omega arith)) (ids 3 (omega arith)) (ids 4 (omega arith)) (ids 5 (omega arith));
      valid = marks.valid;
      index = index;
      looping = marks.looping;
      end_of_stream = marks.end_of_stream;
      pending = marks.pending;
      fraction = fraction;
    }
