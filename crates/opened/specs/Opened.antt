-- The state that an open makes (mixer.rs `State::new`): every row as its type's default. Definitions only.
use Rattle.std.specs.Prelude.{false, List, [], ◌∷◌, ◌++◌, ℕ, ◌*◌, Float, replicate}
use Rattle.floats.specs.Defs.{zero32, one}
use Rattle.rows.specs.Tables.{joined}
use Rattle.params.specs.declared.params.Params.{Params}
use Rattle.params.specs.Params.{row_of}
use Rattle.state.specs.State.{State, state_of, mixes_of}
use Rattle.voice.specs.declared.play.Play.TheVariants.{Stopped}
use Rattle.voice.specs.declared.Voice.{Voice}
use Rattle.voice.specs.Queue.{no_buffer}
use Rattle.voice_rows.specs.VoiceRow.{words_of, longs_of, floats_of}

-- the Rust's `Voice::default()`
unfoldable pub default_voice : Voice
default_voice = record {
  in_use = false;
  fresh = false;
  play = Stopped;
  format = 0;
  sample_rate = 0;
  channels = 0;
  pitch = zero32;
  volume = zero32;
  previous_volume = zero32;
  queued = 0;
  base_index = 0;
  flush = 0;
  decoding = 0;
  mix_id = 0;
  splitter_id = 0;
  channel_ids = 0 ∷ 0 ∷ 0 ∷ 0 ∷ 0 ∷ 0 ∷ [];
  data_source = 0;
  buffers = no_buffer ∷ no_buffer ∷ no_buffer ∷ no_buffer ∷ [];
  valid = false ∷ false ∷ false ∷ false ∷ [];
  index = 0;
  consumed = 0;
  offset = 0;
  played = 0;
  loops = 0;
  fraction = zero32;
}

-- `Mix::default()`: not in use, no buffers, to no mix and no splitter, offset 0; volume 1, all 576 volumes 0
abbrev pub mix_row : List ℕ
mix_row = 0 ∷ 0 ∷ 0x7fffffff ∷ 0xffffffff ∷ 0 ∷ []

abbrev pub mix_gains : List Float
mix_gains = one ∷ replicate 576 zero32

-- `Destination::default()`: not in use, to no mix
abbrev pub destination_row : List ℕ
destination_row = 0 ∷ 0x7fffffff ∷ []

-- ---- the five lists

unfoldable pub opened_words : Params → List ℕ
opened_words p =
    row_of p
    ++ (joined p.voices (λ _. words_of default_voice)
    ++ (joined (mixes_of p) (λ _. mix_row)
    ++ (replicate (p.sinks * 10) 0
    ++ (replicate (p.splitters * 129) 0 ++ joined p.splitter_destinations (λ _. destination_row)))))

unfoldable pub opened_longs : Params → List ℕ
opened_longs p = 0 ∷ joined p.voices (λ _. longs_of default_voice)

unfoldable pub opened_floats : Params → List Float
opened_floats p =
    joined p.voices (λ _. floats_of default_voice)
    ++ (replicate (p.voices * 48) zero32
    ++ (joined (mixes_of p) (λ _. mix_gains)
    ++ (replicate (p.sinks * 4) zero32 ++ replicate (p.splitter_destinations * 48) zero32)))

-- the state; no voice has a sound
unfoldable pub opened : Params → State
unfolding opened_words opened_longs opened_floats
opened p = state_of (opened_words p) (opened_longs p) (opened_floats p) (replicate (p.voices * 3) 0) (replicate (p.voices * 18) zero32)
