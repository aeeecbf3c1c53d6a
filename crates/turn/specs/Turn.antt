-- A voice's turn in a render (mixer.rs `render_voice`), as far as it moves the voice's position. No byte of sample memory is looked at.
use Rattle.std.specs.Prelude.{ℕ, ◌/◌, ◌%◌, max, Bool, false, cond, not, ◌&&◌, pos, ◌==◌, Float}
use Rattle.std.specs.Float.{binary32}
use Rattle.std.specs.Float.Ieee.{mul, div, of_int}
use Rattle.floats.specs.Defs.{one, ratio_of as clamp_ratio}
use Rattle.resample.specs.Defs.{needed_of, next_of}
use Rattle.voice.specs.declared.queue.Queue.{Queue}
use Rattle.voice.specs.declared.Voice.{Voice}
use Rattle.voice.specs.declared.ready.Prepared.{Prepared}
use Rattle.voice.specs.Prepare.{prepare_of}
use Rattle.voice.specs.Voice.{has_destination, queue_of}
use Rattle.plan.specs.Source.{Source}
use Rattle.plan.specs.Rounds.{Planned, plan_of, without_acts}
use Rattle.turn.specs.Render.{Render}
use Rattle.turn.specs.declared.Turn.{Turn}

-- ---- whether the voice takes part, and what comes before its fetch

-- it is in use and has a wave buffer queued
unfoldable pub takes_part : Voice → Bool
takes_part v = v.in_use && not (v.queued == 0)

-- the voice with what a turn changes: its fresh mark, previous volume, queue and fraction
abbrev pub with : Bool → Float → Queue → Float → Voice → Voice
with fresh previous q fraction v = record {
  in_use = v.in_use;
  fresh = fresh;
  play = v.play;
  format = v.format;
  sample_rate = v.sample_rate;
  channels = v.channels;
  pitch = v.pitch;
  volume = v.volume;
  previous_volume = previous;
  queued = v.queued;
  base_index = v.base_index;
  flush = v.flush;
  decoding = v.decoding;
  mix_id = v.mix_id;
  splitter_id = v.splitter_id;
  channel_ids = v.channel_ids;
  data_source = v.data_source;
  buffers = q.buffers;
  valid = q.valid;
  index = q.index;
  consumed = q.consumed;
  offset = q.offset;
  played = q.played;
  loops = q.loops;
  fraction = fraction;
}

-- the voice fresh no longer: its volume does not ramp
abbrev pub unfresh : Voice → Voice
unfresh v = with false v.volume (queue_of v) v.fraction v

-- a fresh voice so; any other as it is
unfoldable pub freshened : Voice → Voice
freshened v = cond v.fresh (unfresh v) v

-- what a turn does before it fetches
unfoldable pub begin_of : Voice → Prepared
unfolding freshened prepare_of
begin_of v = prepare_of (freshened v)

-- ---- the ratio of sample rates

-- SKIP_SAMPLE_RATE_CONVERSION: bit 1 of decoding
abbrev pub skips_conversion : ℕ → Bool
skips_conversion decoding = decoding / 2 % 2 == 1

-- sample_rate as f32 / rate.max(1) as f32 * pitch
unfoldable pub speed_of : ℕ → Voice → Float
speed_of rate v = mul binary32 (div binary32 (of_int binary32 (pos v.sample_rate)) (of_int binary32 (pos (max rate 1)))) v.pitch

-- samples taken for each that is played; clamped whether converted or not
unfoldable pub ratio_of : ℕ → Voice → Float
unfolding speed_of clamp_ratio
ratio_of rate v = clamp_ratio (cond (skips_conversion v.decoding) one (speed_of rate v))

-- ---- the fetch

-- what the fetch takes from the voice and from the render
abbrev pub source_of : Voice → Render → Source
source_of v r = record {
  format = v.format;
  channels = v.channels;
  decoding = v.decoding;
  data_source = v.data_source;
  buffers_v2 = r.buffers_v2;
  ranges = r.ranges;
}

-- the samples that it needs
unfoldable pub needed_by : Voice → Render → ℕ
unfolding ratio_of needed_of
needed_by v r = needed_of v.fraction (ratio_of r.sample_rate v) r.sample_count

-- its plan
unfoldable pub planned_by : Voice → Render → Planned
unfolding plan_of needed_by
planned_by v r = plan_of (queue_of v) (source_of v r) (needed_by v r)

-- ---- after the fetch

-- the volume that the next turn ramps from: a voice without a destination keeps the one it had
unfoldable pub previous_of : Voice → Float
unfolding has_destination
previous_of v = cond (has_destination v.mix_id v.splitter_id) v.volume v.previous_volume

-- the fraction that the next turn begins with
unfoldable pub fraction_of : Voice → Render → Float
unfolding ratio_of next_of
fraction_of v r = next_of v.fraction (ratio_of r.sample_rate v) r.sample_count

-- the voice after its turn
unfoldable pub finished : Voice → Render → Voice
unfolding previous_of planned_by fraction_of
finished v r = with v.fresh (previous_of v) (planned_by v r).queue (fraction_of v r) v

-- what a turn is seen as: the voice after it, and what its sound is made from
pub record Turned : Type 0 where
  pub voice : Voice
  pub plan : Planned
  pub ratio : Float
  pub fraction : Float
  pub needed : ℕ
  pub from : Float
  pub to : Float

-- the turn of a voice that is ready
unfoldable pub turn_of : Voice → Render → Turned
unfolding finished planned_by ratio_of needed_by
turn_of v r = record {
  voice = finished v r;
  plan = planned_by v r;
  ratio = ratio_of r.sample_rate v;
  fraction = v.fraction;
  needed = needed_by v r;
  from = v.previous_volume;
  to = v.volume;
}

-- what the code's turn says of it: all but the acts
abbrev pub told : Turned → Turn
told t = record {
  voice = t.voice;
  plan = without_acts t.plan;
  ratio = t.ratio;
  fraction = t.fraction;
  needed = t.needed;
  from = t.from;
  to = t.to;
}
