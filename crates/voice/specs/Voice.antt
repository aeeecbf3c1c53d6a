-- A voice: whether it has a destination, and its queue taken out and put back.
use Rattle.std.specs.Prelude.{ℕ, Bool, not, ◌||◌, ◌==◌, Float}
use Rattle.voice.specs.declared.play.Play.{Play}
use Rattle.voice.specs.declared.queue.Queue.{Queue}
use Rattle.voice.specs.declared.Voice.{Voice}

unfoldable pub has_destination : ℕ → ℕ → Bool
has_destination mix splitter = not (mix == 0x7fffffff) || not (splitter == 0xffffffff)

abbrev pub queue_of : Voice → Queue
queue_of v = record {
  buffers = v.buffers;
  valid = v.valid;
  index = v.index;
  consumed = v.consumed;
  offset = v.offset;
  played = v.played;
  loops = v.loops;
}

-- the voice with what a prepare changes: its play mark, flush count, queue and fraction
abbrev pub with : Play → ℕ → Queue → Float → Voice → Voice
with play flush q fraction v = record {
  in_use = v.in_use;
  fresh = v.fresh;
  play = play;
  format = v.format;
  sample_rate = v.sample_rate;
  channels = v.channels;
  pitch = v.pitch;
  volume = v.volume;
  previous_volume = v.previous_volume;
  queued = v.queued;
  base_index = v.base_index;
  flush = flush;
  decoding = v.decoding;
  mix_id = v.mix_id;
  splitter_id = v.splitter_id;
  channel_ids = v.channel_ids;
  data_source = v.data_source;
  buffers = q.buffers;
  valid = q.valid;
  index = q.index;
  consumed = q.consumed;
  offset = q.offset;
  played = q.played;
  loops = q.loops;
  fraction = fraction;
}

abbrev pub with_queue : Queue → Voice → Voice
with_queue q v = with v.play v.flush q v.fraction v
