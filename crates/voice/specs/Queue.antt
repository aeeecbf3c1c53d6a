-- The queue of a voice's wave buffers, and the end of the one that plays (mixer.rs `end_buffer`).
use Rattle.std.specs.Prelude.{◌≡◌, ℕ, ◌+◌, ◌-◌, ◌%◌, ◌^◌, false, cond, List, slice_index_or, slice_set, refl}
use Rattle.voice.specs.declared.wave.WaveBuffer.{WaveBuffer}
use Rattle.voice.specs.declared.queue.Queue.{Queue}
use Rattle.voice.specs.declared.queue.Spot.{Spot}

-- a wave buffer of zeros, as a new voice has four
abbrev pub no_buffer : WaveBuffer
no_buffer = record {
  addr = 0;
  size = 0;
  start = 0;
  end = 0;
  looping = false;
  end_of_stream = false;
  loop_count = 0;
  context = 0;
  loop_start = 0;
  loop_end = 0;
  pending = false;
}

abbrev pub buffer_at : Queue → ℕ → WaveBuffer
buffer_at q k = slice_index_or q.buffers k no_buffer

-- where a queue plays
abbrev pub spot_of : Queue → Spot
spot_of q = record { valid = q.valid; index = q.index; consumed = q.consumed; offset = q.offset; played = q.played; loops = q.loops }

-- the queue of some wave buffers that plays at a spot
abbrev pub queue_at : List WaveBuffer → Spot → Queue
queue_at b p = record {
  buffers = b;
  valid = p.valid;
  index = p.index;
  consumed = p.consumed;
  offset = p.offset;
  played = p.played;
  loops = p.loops;
}

abbrev pub next_slot : ℕ → ℕ
next_slot slot = (slot + 1) % 4

-- one more, going round at 2^32
abbrev pub more32 : ℕ → ℕ
more32 n = (n + 1) % 2 ^ 32

-- after the largest comes 0
pub more_largest : more32 (2 ^ 32 - 1) ≡ 0
more_largest = refl

-- the buffer that plays has ended
unfoldable pub end_buffer : Queue → Queue
end_buffer q = record {
  buffers = q.buffers;
  valid = slice_set q.valid q.index false;
  index = next_slot q.index;
  consumed = more32 q.consumed;
  offset = q.offset;
  played = cond (buffer_at q q.index).end_of_stream 0 q.played;
  loops = 0;
}
