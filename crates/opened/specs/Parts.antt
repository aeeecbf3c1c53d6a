-- The rows of a new state that are written together, and how long they are. Assumes nothing.
use Rattle.std.specs.Prelude.{◌≡◌, refl, List, ◌++◌, ℕ, suc, ◌+◌, ◌*◌, Float, length, set, replicate}
use Rattle.std.proofs.Common.{ap, length-append}
use Rattle.std.proofs.lemmas.List.{length-replicate}
use Rattle.floats.specs.Defs.{zero32}
use Rattle.rows.specs.Tables.{joined, length_joined}
use Rattle.voice_rows.specs.WaveRow.{words_of_wave}
use Rattle.voice_rows.specs.VoiceRow.{head_of, words_of, longs_of, floats_of, length_words, length_longs, length_floats}
use Rattle.opened.specs.Opened.{default_voice, mix_row, mix_gains, destination_row}

-- ---- n voices

-- the play mark of a default voice says Stopped, and every other word is 0
pub default_words : set (replicate 58 0) 2 1 ≡ words_of default_voice
unfolding words_of head_of words_of_wave default_voice
default_words = refl

abbrev pub voice_words : ℕ → List ℕ
voice_words n = joined n (λ _. words_of default_voice)

abbrev pub voice_longs : ℕ → List ℕ
voice_longs n = joined n (λ _. longs_of default_voice)

abbrev pub voice_floats : ℕ → List Float
voice_floats n = joined n (λ _. floats_of default_voice)

-- ---- the desk: mixes, sinks, splitters and destinations

abbrev pub mix_words : ℕ → List ℕ
mix_words n = joined n (λ _. mix_row)

abbrev pub mix_floats : ℕ → List Float
mix_floats n = joined n (λ _. mix_gains)

abbrev pub destination_words : ℕ → List ℕ
destination_words n = joined n (λ _. destination_row)

abbrev pub list_words : ℕ → ℕ → List ℕ
list_words splitters destinations = replicate (splitters * 129) 0 ++ destination_words destinations

abbrev pub desk_words : ℕ → ℕ → ℕ → ℕ → List ℕ
desk_words mixes sinks splitters destinations = mix_words mixes ++ (replicate (sinks * 10) 0 ++ list_words splitters destinations)

abbrev pub desk_floats : ℕ → ℕ → ℕ → List Float
desk_floats mixes sinks destinations = mix_floats mixes ++ (replicate (sinks * 4) zero32 ++ replicate (destinations * 48) zero32)

-- ---- lengths

pub length_voice_words : (n : ℕ) → length (voice_words n) ≡ n * 58
length_voice_words n = length_joined 58 n _ (λ _. length_words default_voice)

pub length_voice_longs : (n : ℕ) → length (voice_longs n) ≡ n * 14
length_voice_longs n = length_joined 14 n _ (λ _. length_longs default_voice)

pub length_voice_floats : (n : ℕ) → length (voice_floats n) ≡ n * 4
length_voice_floats n = length_joined 4 n _ (λ _. length_floats default_voice)

pub length_mix_words : (n : ℕ) → length (mix_words n) ≡ n * 5
length_mix_words n = length_joined 5 n _ (λ _. refl)

pub length_mix_floats : (n : ℕ) → length (mix_floats n) ≡ n * 577
length_mix_floats n = length_joined 577 n _ (λ _. ap suc (length-replicate 576 zero32))

pub length_destination_words : (n : ℕ) → length (destination_words n) ≡ n * 2
length_destination_words n = length_joined 2 n _ (λ _. refl)

pub length_desk_words : (m k s d : ℕ) → length (desk_words m k s d) ≡ m * 5 + (k * 10 + (s * 129 + d * 2))
length_desk_words m k s d = simp (length-append, length_mix_words, length-replicate, length_destination_words)

pub length_desk_floats : (m k d : ℕ) → length (desk_floats m k d) ≡ m * 577 + (k * 4 + d * 48)
length_desk_floats m k d = simp (length-append, length_mix_floats, length-replicate)
