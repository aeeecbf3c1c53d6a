-- What a long flush leaves, without its turns.
use Rattle.std.specs.Prelude.{ℕ, ◌+◌, ◌%◌, ◌^◌, false, map, replicate}
use Rattle.voice.specs.declared.queue.Queue.{Queue}
use Rattle.voice.specs.Prepare.{settled}

-- every buffer dropped, index and consumed advanced by n
unfoldable pub emptied : ℕ → Queue → Queue
emptied n q = record {
  buffers = map settled q.buffers;
  valid = replicate 4 false;
  index = (q.index + n) % 4;
  consumed = (q.consumed + n) % 2 ^ 32;
  offset = q.offset;
  played = q.played;
  loops = q.loops;
}
