-- What an update's record makes of a voice. Definitions only.
use Rattle.std.specs.Prelude.{false, cond, List, ℕ}
use Rattle.params.specs.declared.params.Params.{Params}
use Rattle.params.specs.Sizes.{revision_of}
use Rattle.voice.specs.declared.Voice.{Voice}
use Rattle.voice_records.specs.Record.{record_used, recorded}

-- the voice marked as not in use
abbrev pub out_of_use : Voice → Voice
out_of_use v = record {
  in_use = false;
  fresh = v.fresh;
  play = v.play;
  format = v.format;
  sample_rate = v.sample_rate;
  channels = v.channels;
  pitch = v.pitch;
  volume = v.volume;
  previous_volume = v.previous_volume;
  queued = v.queued;
  base_index = v.base_index;
  flush = v.flush;
  decoding = v.decoding;
  mix_id = v.mix_id;
  splitter_id = v.splitter_id;
  channel_ids = v.channel_ids;
  data_source = v.data_source;
  buffers = v.buffers;
  valid = v.valid;
  index = v.index;
  consumed = v.consumed;
  offset = v.offset;
  played = v.played;
  loops = v.loops;
  fraction = v.fraction;
}

-- by record e, which is empty where there is none or it is cut short
unfoldable pub voice_after : Params → List ℕ → Voice → Voice
voice_after p e v = cond (record_used e) (recorded (revision_of p) p.voices e v) (out_of_use v)
