-- A flag and a play mark as a word and back. Assumes nothing.
use Rattle.std.specs.Prelude.{◌≡◌, refl, Bool, true, false, ℕ, zero, suc, ◌≤◌}
use Rattle.std.proofs.Common.{arith}
use Rattle.voice.specs.declared.play.Play.{Play}
use Rattle.voice.specs.declared.play.Play.TheVariants.{Started, Stopped, Stopping, Paused}
use Rattle.voice_rows.specs.WaveRow.{flag_of, word_of_flag}
use Rattle.voice_rows.specs.VoiceRow.{play_of, word_of_play}

pub flag_again : (b : Bool) → flag_of (word_of_flag b) ≡ b
flag_again true = refl
flag_again false = refl

pub flag_word : (n : ℕ) → n ≤ 1 → word_of_flag (flag_of n) ≡ n
flag_word zero h = refl
flag_word (suc zero) h = refl
flag_word (suc (suc n)) h = absurd (omega arith)

pub play_again : (p : Play) → play_of (word_of_play p) ≡ p
play_again Started = refl
play_again Stopped = refl
play_again Stopping = refl
play_again Paused = refl

pub play_word : (n : ℕ) → n ≤ 3 → word_of_play (play_of n) ≡ n
play_word zero h = refl
play_word (suc zero) h = refl
play_word (suc (suc zero)) h = refl
play_word (suc (suc (suc zero))) h = refl
play_word (suc (suc (suc (suc n)))) h = absurd (omega arith)
