-- The sound of a voice's turn (mixer.rs `render_voice`): each channel's row, what is heard of it, and what the voice keeps.
use Rattle.std.specs.Prelude.{ℕ, ◌*◌, cond, List, eqb, Float}
use Rattle.rows.specs.Rows.{part, put}
use Rattle.rows.specs.Folds.{up_to}
use Rattle.resample.specs.Defs.{resampled}
use Rattle.voice.specs.declared.sound.Sound.{Sound}
use Rattle.plan.specs.Source.{Source}
use Rattle.voice.specs.declared.queue.Queue.{Queue}
use Rattle.plan.specs.Rounds.{Planned, plan_of}
use Rattle.sound.specs.Sound.{Deck, table_of, perform_all, row_of}
use Rattle.sound.specs.Perform.{fresh}

-- what the sound is made from: the plan of a fetch of `needed` samples, its source and sample memory, the sound kept from
-- the turn before, and the resampler's ratio, fraction and count of outputs
pub record Material : Type 0 where
  pub plan : Planned
  pub source : Source
  pub memory : List ℕ
  pub needed : ℕ
  pub sound : Sound
  pub ratio : Float
  pub fraction : Float
  pub count : ℕ

-- the same of a fetch from a queue
abbrev pub material : Queue → Source → List ℕ → ℕ → Sound → Float → Float → ℕ → Material
material q s m needed sound ratio fraction n = record {
  plan = plan_of q s needed;
  source = s;
  memory = m;
  needed = needed;
  sound = sound;
  ratio = ratio;
  fraction = fraction;
  count = n;
}

-- what the plan's acts make for channel c
unfoldable pub deck_of : Material → ℕ → Deck
unfolding perform_all table_of
deck_of w c = perform_all w.source w.memory (table_of w.plan.table w.source w.memory) c w.plan.acts (fresh w.sound.adpcm)

-- the history of channel c: three of eighteen
abbrev pub three_of : ℕ → List Float → List Float
three_of c history = part 3 (c * 3) history

-- channel c's row for the resampler
unfoldable pub channel_row : Material → ℕ → List Float
unfolding deck_of row_of
channel_row w c = row_of (three_of c w.sound.history.samples) w.needed w.plan.done (deck_of w c)

-- what is heard of it
unfoldable pub channel_out : Material → ℕ → List Float
unfolding channel_row resampled
channel_out w c = resampled (channel_row w c) w.ratio w.fraction w.count

-- row c of the outputs
abbrev pub out_step : Material → ℕ → List Float → List Float
out_step w c out = put out (c * w.count) (channel_out w c)

-- the last three of a row with `needed` new samples: the history for the next turn
abbrev pub tail_of : ℕ → List Float → List Float
tail_of needed row = part 3 needed row

-- row c of the history
abbrev pub history_step : Material → ℕ → List Float → List Float
history_step w c history = put history (c * 3) (tail_of w.needed (channel_row w c))

-- what is kept after channel c, of what was kept before it
abbrev pub sound_step : Material → ℕ → Sound → Sound
sound_step w c kept = record {
  adpcm = cond (eqb c 0) (deck_of w c).adpcm kept.adpcm;
  history = record { samples = history_step w c kept.history.samples };
}

-- all channels' outputs, one behind the other
unfoldable pub played_out : Material → List Float → List Float
unfolding up_to channel_out
played_out w out = up_to (out_step w) w.source.channels out

-- all channels' history
unfoldable pub played_history : Material → List Float
unfolding up_to channel_row
played_history w = up_to (history_step w) w.source.channels w.sound.history.samples

-- what the voice keeps: the ADPCM context of channel 0, which alone is decoded, and the history
unfoldable pub played_sound : Material → Sound
unfolding deck_of played_history
played_sound w = record { adpcm = (deck_of w 0).adpcm; history = record { samples = played_history w } }
