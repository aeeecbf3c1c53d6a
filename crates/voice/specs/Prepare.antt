-- What a render does with a voice before it fetches (mixer.rs `prepare`).
use Rattle.std.specs.Prelude.{ℕ, zero, suc, ◌+◌, ◌%◌, ◌^◌, Bool, true, false, cond, ◌||◌, List, [], ◌∷◌, map, replicate, pos, slice_set}
use Rattle.std.specs.Float.{fin}
use Rattle.voice.specs.declared.play.Play.{Play}
use Rattle.voice.specs.declared.play.Play.TheVariants.{Started, Stopped, Stopping, Paused}
use Rattle.voice.specs.declared.wave.WaveBuffer.{WaveBuffer}
use Rattle.voice.specs.declared.queue.Queue.{Queue}
use Rattle.voice.specs.declared.Voice.{Voice}
use Rattle.voice.specs.declared.ready.Prepared.{Prepared}
use Rattle.voice.specs.Queue.{buffer_at, next_slot, more32}
use Rattle.voice.specs.Voice.{queue_of, with}

-- a buffer that is no longer pending
abbrev pub settled : WaveBuffer → WaveBuffer
settled w = record {
  addr = w.addr;
  size = w.size;
  start = w.start;
  end = w.end;
  looping = w.looping;
  end_of_stream = w.end_of_stream;
  loop_count = w.loop_count;
  context = w.context;
  loop_start = w.loop_start;
  loop_end = w.loop_end;
  pending = false;
}

-- one turn of the flush walk: the slot's buffer is dropped and counts as consumed
unfoldable pub flush_slot : Queue → ℕ → Queue
flush_slot q slot = record {
  buffers = slice_set q.buffers slot (settled (buffer_at q slot));
  valid = slice_set q.valid slot false;
  index = next_slot q.index;
  consumed = more32 q.consumed;
  offset = q.offset;
  played = q.played;
  loops = q.loops;
}

-- the flush walk: n turns from a slot on
unfoldable pub flushed : ℕ → ℕ → Queue → Queue
flushed zero slot q = q
flushed (suc n) slot q = flushed n (next_slot slot) (flush_slot q slot)

-- a slot is valid if it was or if its buffer was pending
abbrev pub joined : List WaveBuffer → List Bool → List Bool
joined [] vs = vs
joined (b ∷ bs) [] = []
joined (b ∷ bs) (v ∷ vs) = (b.pending || v) ∷ joined bs vs

unfoldable pub promoted : Queue → Queue
promoted q = record {
  buffers = map settled q.buffers;
  valid = joined q.buffers q.valid;
  index = q.index;
  consumed = q.consumed;
  offset = q.offset;
  played = q.played;
  loops = q.loops;
}

abbrev pub any_of : List Bool → Bool
any_of [] = false
any_of (v ∷ vs) = v || any_of vs

-- how many are valid
abbrev pub marks : List Bool → ℕ
marks [] = 0
marks (v ∷ vs) = cond v (suc (marks vs)) (marks vs)

-- every buffer dropped; each that was valid counts as consumed
unfoldable pub stopped : Queue → Queue
stopped q = record {
  buffers = map settled q.buffers;
  valid = replicate 4 false;
  index = (q.index + marks q.valid) % 4;
  consumed = (q.consumed + marks q.valid) % 2 ^ 32;
  offset = 0;
  played = 0;
  loops = 0;
}

-- by the play mark, of the queue that the flush walk left
unfoldable pub prepared_by : Play → Queue → Voice → Prepared
unfolding promoted stopped
prepared_by Started q v = record { voice = with Started 0 (promoted q) v.fraction v; ready = any_of (promoted q).valid; reset = false }
prepared_by Stopping q v = record { voice = with Stopped 0 (stopped q) (fin false 0 (pos 0)) v; ready = false; reset = true }
prepared_by Stopped q v = record { voice = with Stopped 0 q v.fraction v; ready = false; reset = false }
prepared_by Paused q v = record { voice = with Paused 0 q v.fraction v; ready = false; reset = false }

unfoldable pub prepare_of : Voice → Prepared
unfolding prepared_by flushed
prepare_of v = prepared_by v.play (flushed v.flush v.base_index (queue_of v)) v
