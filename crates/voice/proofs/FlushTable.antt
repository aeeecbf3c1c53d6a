-- The flush walk by a table: four slots pending and valid, from slot 1 on, with index 2 and consumed 7. Assumes nothing.
use Rattle.std.proofs.Common.{◌≡◌, ℕ, ◌-◌, ◌^◌, min, Bool, true, false, List, [], ◌∷◌, map, replicate, refl, arith}
use Rattle.voice.specs.declared.wave.WaveBuffer.{WaveBuffer}
use Rattle.voice.specs.declared.queue.Queue.{Queue}
use Rattle.voice.specs.Prepare.{flush_slot, flushed}
use Rattle.voice.specs.Flush.{emptied}
use Rattle.voice.proofs.LongFlush.{flushed_long}

abbrev buffer : Bool → WaveBuffer
buffer pending = record {
  addr = 65536;
  size = 480;
  start = 0;
  end = 240;
  looping = false;
  end_of_stream = true;
  loop_count = 0;
  context = 0;
  loop_start = 0;
  loop_end = 0;
  pending = pending;
}

-- the slots that are marked are pending and valid
abbrev queue : List Bool → ℕ → ℕ → Queue
queue slots index consumed = record {
  buffers = map buffer slots;
  valid = slots;
  index = index;
  consumed = consumed;
  offset = 5;
  played = 100;
  loops = 1;
}

-- a flush count, its turns, and what is left: slots, index and consumed
abbrev Row : ℕ → ℕ → List Bool → ℕ → ℕ → Type 0
Row count turns slots index consumed =
    (min 4 count ≡ turns) × (flushed count 1 (queue (replicate 4 true) 2 7) ≡ queue slots index consumed)

pub none : Row 0 0 (replicate 4 true) 2 7
unfolding flushed flush_slot
none = (refl, refl)

pub three : Row 3 3 (true ∷ false ∷ false ∷ false ∷ []) 1 10
unfolding flushed flush_slot
three = (refl, refl)

pub four : Row 4 4 (replicate 4 false) 2 11
unfolding flushed flush_slot
four = (refl, refl)

pub five : Row 5 4 (replicate 4 false) 3 12
unfolding flushed flush_slot
five = (refl, refl)

-- by the law, and not by a walk
pub largest : Row (2 ^ 32 - 1) 4 (replicate 4 false) 1 6
unfolding emptied
largest = (refl, flushed_long (queue (replicate 4 true) 2 7) refl refl (2 ^ 32 - 1) 1 (omega arith) (omega arith))
