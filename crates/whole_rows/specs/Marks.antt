-- The marks in a voice's row of 58 words: each flag is 0 or 1 and the play mark at most 3, in the row of every voice that is stored. Assumes nothing.
use Rattle.std.specs.Prelude.{Bool, true, false, List, ℕ, zero, suc, ◌+◌, ◌*◌, ◌≤◌, ◌<◌, get_or}
use Rattle.std.proofs.Common.{arith}
use Rattle.voice.specs.declared.play.Play.{Play}
use Rattle.voice.specs.declared.play.Play.TheVariants.{Started, Stopped, Stopping, Paused}
use Rattle.voice.specs.declared.Voice.{Voice}
use Rattle.voice_rows.specs.WaveRow.{word_of_flag, words_of_wave}
use Rattle.voice_rows.specs.VoiceRow.{word_of_play, head_of, wave_at, words_of}

-- in_use, fresh, play and valid; of wave buffer b looping, end_of_stream and pending
pub record Marks (row : List ℕ) : Type 0 where
  pub used : get_or row 0 0 ≤ 1
  pub fresh : get_or row 1 0 ≤ 1
  pub play : get_or row 2 0 ≤ 3
  pub valid : (k : ℕ) → k < 4 → get_or row (18 + k) 0 ≤ 1
  pub looping : (b : ℕ) → b < 4 → get_or row (26 + b * 8 + 2) 0 ≤ 1
  pub end_of_stream : (b : ℕ) → b < 4 → get_or row (26 + b * 8 + 3) 0 ≤ 1
  pub pending : (b : ℕ) → b < 4 → get_or row (26 + b * 8 + 7) 0 ≤ 1

-- ---- a voice that is stored

flag_small : (b : Bool) → word_of_flag b ≤ 1
flag_small true = omega arith
flag_small false = omega arith

play_small : (p : Play) → word_of_play p ≤ 3
play_small Started = omega arith
play_small Stopped = omega arith
play_small Stopping = omega arith
play_small Paused = omega arith

each_of_four : (P : ℕ → Type 0) → P 0 → P 1 → P 2 → P 3 → (k : ℕ) → k < 4 → P k
each_of_four P a b c d zero h = a
each_of_four P a b c d (suc zero) h = b
each_of_four P a b c d (suc (suc zero)) h = c
each_of_four P a b c d (suc (suc (suc zero))) h = d
each_of_four P a b c d (suc (suc (suc (suc k)))) h = absurd (omega arith)

pub marks_stored : (v : Voice) → Marks (words_of v)
unfolding words_of head_of words_of_wave
marks_stored v =
    let words = words_of v in
    let valid : (k : ℕ) → word_of_flag (get_or v.valid k false) ≤ 1 = λ k. flag_small (get_or v.valid k false) in
    let looping : (b : ℕ) → word_of_flag (wave_at v b).looping ≤ 1 = λ b. flag_small (wave_at v b).looping in
    let ends : (b : ℕ) → word_of_flag (wave_at v b).end_of_stream ≤ 1 = λ b. flag_small (wave_at v b).end_of_stream in
    let pending : (b : ℕ) → word_of_flag (wave_at v b).pending ≤ 1 = λ b. flag_small (wave_at v b).pending in
    record {
      used = flag_small v.in_use;
      fresh = flag_small v.fresh;
      play = play_small v.play;
      valid = each_of_four (λ k. get_or words (18 + k) 0 ≤ 1) (valid 0) (valid 1) (valid 2) (valid 3);
      looping = each_of_four (λ b. get_or words (26 + b * 8 + 2) 0 ≤ 1) (looping 0) (looping 1) (looping 2) (looping 3);
      end_of_stream = each_of_four (λ b. get_or words (26 + b * 8 + 3) 0 ≤ 1) (ends 0) (ends 1) (ends 2) (ends 3);
      pending = each_of_four (λ b. get_or words (26 + b * 8 + 7) 0 ≤ 1) (pending 0) (pending 1) (pending 2) (pending 3);
    }
