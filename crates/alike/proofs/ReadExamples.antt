-- The reads of a voice's turn, computed: each list whole, so that a definition of the reads that is wider or narrower gives another.
-- Assumes nothing.
use mathlib.Core.Path.{◌≡◌, refl}
use mathlib.Core.Bool.{Bool, true, false}
use mathlib.Core.List.{List, [], ◌∷◌}
use Prim.Native.Nat.{ℕ, ◌+◌}
use lib.Ieee.{add, div, mul, sub, lt, of_int, to_unsigned}
use Rattle.adpcm.specs.Places.{nibble_of, size_of}
use Rattle.adpcm.specs.Runs.{count_from, holds}
use Rattle.floats.specs.Defs.{one, zero32}
use Rattle.ranges.specs.Ranges.{Range, range, readable_of}
use Rattle.resample.specs.Defs.{needed_of, next_of}
use Rattle.voice.specs.declared.play.Play.{Play}
use Rattle.voice.specs.declared.play.Play.TheVariants.{Started, Stopped, Stopping, Paused}
use Rattle.voice.specs.declared.wave.WaveBuffer.{WaveBuffer}
use Rattle.voice.specs.declared.Voice.{Voice}
use Rattle.voice.specs.Prepare.{flush_slot}
use Rattle.voice.specs.Queue.{no_buffer}
use Rattle.turn.specs.Render.{Render}
use Rattle.alike.specs.Reads.{Span, span, voice_reads}

-- ---- what the examples consist of

-- sample memory begins at 0x10000
abbrev pub base : ℕ
base = 0x10000

-- memory of so many bytes, which is one range
abbrev pub whole : ℕ → List Range
whole size = range base 0 size ∷ []

-- a render of two samples at 48 kHz, of memory in these ranges
abbrev pub rendering : List Range → Render
rendering rs = record { sample_count = 2; sample_rate = 48000; buffers_v2 = true; ranges = rs }

-- a buffer that was sent: address, size in bytes, end in samples, context, whether it loops
abbrev pub buffer : ℕ → ℕ → ℕ → ℕ → Bool → WaveBuffer
buffer addr size end context looping = record {
  addr = addr;
  size = size;
  start = 0;
  end = end;
  looping = looping;
  end_of_stream = false;
  loop_count = 0xffffffff;
  context = context;
  loop_start = 0;
  loop_end = 0;
  pending = true;
}

-- a voice at 48 kHz and pitch 1, its coefficients at `base`, by: in use, play mark, format, channels, buffers queued, flush count, its
-- first two buffers
abbrev pub voice : Bool → Play → ℕ → ℕ → ℕ → ℕ → WaveBuffer → WaveBuffer → Voice
voice used play format channels queued flush first second = record {
  in_use = used;
  fresh = false;
  play = play;
  format = format;
  sample_rate = 48000;
  channels = channels;
  pitch = one;
  volume = one;
  previous_volume = one;
  queued = queued;
  base_index = 0;
  flush = flush;
  decoding = 0;
  mix_id = 0;
  splitter_id = 0xffffffff;
  channel_ids = 0 ∷ 0 ∷ 0 ∷ 0 ∷ 0 ∷ 0 ∷ [];
  data_source = base;
  buffers = first ∷ second ∷ no_buffer ∷ no_buffer ∷ [];
  valid = false ∷ false ∷ false ∷ false ∷ [];
  index = 0;
  consumed = 0;
  offset = 0;
  played = 0;
  loops = 0;
  fraction = zero32;
}

-- that plays one buffer
abbrev pub plays : ℕ → ℕ → WaveBuffer → Voice
plays format channels b = voice true Started format channels 1 0 b no_buffer

-- its reads, of 256 bytes of memory
abbrev pub reads : Voice → List Span
reads v = voice_reads (rendering (whole 0x100)) v

-- ---- formats and channels

-- 2 and 4 bytes a sample; a frame of two channels; a format that is not known reads nothing
pub formats : (reads (plays 2 1 (buffer base 8 4 0 false)) ≡ span base 4 ∷ [])
    × (reads (plays 5 1 (buffer base 16 4 0 false)) ≡ span base 8 ∷ [])
    × (reads (plays 2 2 (buffer base 16 4 0 false)) ≡ span base 8 ∷ [])
    × (reads (plays 5 2 (buffer base 32 4 0 false)) ≡ span base 16 ∷ [])
    × (reads (plays 3 1 (buffer base 8 4 0 false)) ≡ [])
unfolding voice_reads needed_of next_of add div mul sub lt of_int to_unsigned readable_of
formats = (refl, refl, refl, refl, refl)

-- ADPCM: the coefficients, the context where there is one, and the bytes that hold the samples
pub adpcm : (reads (plays 6 1 (buffer (base + 40) 8 14 (base + 32) false)) ≡ span base 32 ∷ span (base + 32) 6 ∷ span (base + 40) 2 ∷ [])
    × (reads (plays 6 1 (buffer (base + 40) 8 14 0 false)) ≡ span base 32 ∷ span (base + 40) 2 ∷ [])
unfolding voice_reads needed_of next_of add div mul sub lt of_int to_unsigned readable_of nibble_of size_of count_from holds
adpcm = (refl, refl)

-- ---- rounds

-- a buffer of one sample and the next; one of one sample that loops; a next one whose span goes round at 2 ^ 64 and is not in memory
pub rounds : (reads (voice true Started 2 1 2 0 (buffer base 2 1 0 false) (buffer (base + 0x20) 8 4 0 false))
    ≡ span base 2 ∷ span (base + 0x20) 2 ∷ [])
    × (reads (plays 2 1 (buffer base 2 1 0 true)) ≡ span base 2 ∷ span base 2 ∷ [])
    × (reads (voice true Started 2 1 2 0 (buffer base 2 1 0 false) (buffer 0xffffffffffffffff 8 4 0 false)) ≡ span base 2 ∷ [])
unfolding voice_reads needed_of next_of add div mul sub lt of_int to_unsigned readable_of
rounds = (refl, refl, refl)

-- the first buffer flushed: the second is read
pub flush : reads (voice true Started 2 1 2 1 (buffer base 8 4 0 false) (buffer (base + 0x20) 8 4 0 false)) ≡ span (base + 0x20) 4 ∷ []
unfolding voice_reads needed_of next_of add div mul sub lt of_int to_unsigned readable_of flush_slot
flush = refl

-- a read that does not lie in memory is no read: memory of 4 bytes and of 3; of 39 for the ADPCM voice, where the coefficients and the
-- context alone are there, and of 31
pub inside : (voice_reads (rendering (whole 4)) (plays 2 1 (buffer base 8 4 0 false)) ≡ span base 4 ∷ [])
    × (voice_reads (rendering (whole 3)) (plays 2 1 (buffer base 8 4 0 false)) ≡ [])
    × (voice_reads (rendering (whole 39)) (plays 6 1 (buffer (base + 40) 8 14 (base + 32) false)) ≡ span base 32 ∷ span (base + 32) 6 ∷ [])
    × (voice_reads (rendering (whole 31)) (plays 6 1 (buffer (base + 40) 8 14 (base + 32) false)) ≡ [])
unfolding voice_reads needed_of next_of add div mul sub lt of_int to_unsigned readable_of nibble_of size_of count_from holds
inside = (refl, refl, refl, refl)

-- ---- two ranges and more

-- n bytes from `base` on, whose part lies behind that of the second range; the second begins `gap` bytes behind the end of the first
abbrev pub apart : ℕ → ℕ → List Range
apart n gap = range base 0x100 n ∷ range (base + n + gap) 0 0x80 ∷ []

-- two samples of PCM, the second of which lies in both ranges, are one span; not where the byte between its two is missing; and so of
-- a frame of two channels
pub across : (voice_reads (rendering (apart 3 0)) (plays 2 1 (buffer base 8 4 0 false)) ≡ span base 4 ∷ [])
    × (voice_reads (rendering (apart 3 1)) (plays 2 1 (buffer base 8 4 0 false)) ≡ [])
    × (voice_reads (rendering (apart 6 0)) (plays 2 2 (buffer base 16 4 0 false)) ≡ span base 8 ∷ [])
    × (voice_reads (rendering (apart 6 1)) (plays 2 2 (buffer base 16 4 0 false)) ≡ [])
unfolding voice_reads needed_of next_of add div mul sub lt of_int to_unsigned readable_of
across = (refl, refl, refl, refl)

-- ADPCM: a context that lies in both ranges is one span; where a byte of it is missing, it is not read, and the samples are; coefficients
-- in three ranges, the second of which they hold whole
pub adpcm_across : (voice_reads (rendering (apart 35 0)) (plays 6 1 (buffer (base + 40) 8 14 (base + 32) false))
    ≡ span base 32 ∷ span (base + 32) 6 ∷ span (base + 40) 2 ∷ [])
    × (voice_reads (rendering (apart 35 1)) (plays 6 1 (buffer (base + 40) 8 14 (base + 32) false)) ≡ span base 32 ∷ span (base + 40) 2 ∷ [])
    × (voice_reads (rendering (range base 0x100 10 ∷ range (base + 10) 0 10 ∷ range (base + 20) 0x80 40 ∷ []))
    (plays 6 1 (buffer (base + 40) 8 14 0 false)) ≡ span base 32 ∷ span (base + 40) 2 ∷ [])
unfolding voice_reads needed_of next_of add div mul sub lt of_int to_unsigned readable_of nibble_of size_of count_from holds
adpcm_across = (refl, refl, refl)

-- ---- voices that read nothing: not in use, without a buffer queued, paused, stopped, stopping

pub none : (reads (voice false Started 2 1 1 0 (buffer base 8 4 0 false) no_buffer) ≡ [])
    × (reads (voice true Started 2 1 0 0 (buffer base 8 4 0 false) no_buffer) ≡ [])
    × (reads (voice true Paused 2 1 1 0 (buffer base 8 4 0 false) no_buffer) ≡ [])
    × (reads (voice true Stopped 2 1 1 0 (buffer base 8 4 0 false) no_buffer) ≡ [])
    × (reads (voice true Stopping 2 1 1 0 (buffer base 8 4 0 false) no_buffer) ≡ [])
unfolding voice_reads
none = (refl, refl, refl, refl, refl)
