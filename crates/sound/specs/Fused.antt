-- The fetch as the Rust has it, one loop that reads, decodes and moves (mixer.rs `fetch` and `decode`, line by line), with the bytes of
-- sample memory at hand. The law at the end: it is the plan, and then the sound of every channel. Assumes nothing.
use Rattle.std.specs.Prelude.{ℕ, zero, suc, ◌+◌, ◌-◌, ◌*◌, ◌/◌, ◌%◌, ◌^◌, min, Bool, true, false, cond, not, ◌&&◌, ◌||◌, List, [], ◌∷◌, ◌++◌, leb, ltb, eqb, Float, ℤ, length, get_or, take, replicate, Option, Some, None}
use Rattle.ranges.specs.Ranges.{readable_of}
use Rattle.memory.specs.Memory.{read_of}
use Rattle.adpcm.specs.Places.{nibble_of, size_of}
use Rattle.adpcm.specs.Context.{context_of}
use Rattle.adpcm.specs.Decode.{run_of, floated}
use Rattle.adpcm.specs.declared.context.AdpcmContext.{AdpcmContext}
use Rattle.floats.specs.Defs.{zero32}
use Rattle.voice.specs.Queue.{buffer_at, end_buffer}
use Rattle.voice.specs.declared.wave.WaveBuffer.{WaveBuffer}
use Rattle.voice.specs.declared.queue.Queue.{Queue}
use Rattle.plan.specs.Source.{Source}
use Rattle.plan.specs.Rounds.{Moved, in_loop, at}
use Rattle.sound.specs.Sound.{table_of, pcm_of}

-- each channel's row, by a function of the channel and the row
unfoldable pub each_row : (ℕ → List Float → List Float) → ℕ → List (List Float) → List (List Float)
each_row f c [] = []
each_row f c (r ∷ rows) = f c r ∷ each_row f (suc c) rows

-- ---- decode

-- what a decode leaves: the Option<usize>, the ADPCM context, and the rows
pub record Decoding : Type 0 where
  pub got : Option ℕ
  pub adpcm : AdpcmContext
  pub rows : List (List Float)

abbrev pub none : AdpcmContext → List (List Float) → Decoding
none x rows = record { got = None; adpcm = x; rows = rows }

unfoldable pub pcm_fused : ℕ → Source → List ℕ → WaveBuffer → ℕ → ℕ → AdpcmContext → List (List Float) → Decoding
unfolding each_row
pcm_fused width s m w pos want x rows =
    let frame = width * s.channels in
    let n = min want (w.size / frame - pos) in
    let addr = (w.addr + pos * frame) % 2 ^ 64 in
    cond (eqb n 0) (none x rows)
    (cond (readable_of s.ranges addr (n * frame))
    (record { got = Some n; adpcm = x; rows = each_row (λ c r. r ++ pcm_of width s.channels c (read_of s.ranges m addr (n * frame)) n) 0 rows })
    (none x rows))

-- the samples on channel 0, and as many zeros on the others
abbrev pub adpcm_row : List ℤ → ℕ → List Float → List Float
adpcm_row samples zero r = r ++ floated samples
adpcm_row samples (suc c) r = r ++ replicate (length samples) zero32

unfoldable pub adpcm_fused : Source → List ℕ → List ℤ → WaveBuffer → ℕ → ℕ → AdpcmContext → List (List Float) → Decoding
unfolding each_row
adpcm_fused s m table w pos want x rows =
    let first = nibble_of pos / 2 in
    let last = min (size_of (pos + want)) w.size in
    let addr = (w.addr + first) % 2 ^ 64 in
    let run = run_of (read_of s.ranges m addr (last - first)) pos want table x in
    let n = length run.samples in
    cond (leb last first) (none x rows)
    (cond (readable_of s.ranges addr (last - first))
    (record { got = cond (eqb n 0) None (Some n); adpcm = run.context; rows = each_row (adpcm_row run.samples) 0 rows })
    (none x rows))

unfoldable pub decode_fused : Source → List ℕ → List ℤ → WaveBuffer → ℕ → ℕ → AdpcmContext → List (List Float) → Decoding
unfolding pcm_fused adpcm_fused each_row
decode_fused s m table w pos want x rows =
    cond (eqb want 0) (record { got = Some 0; adpcm = x; rows = rows })
    (cond (eqb s.format 2 || eqb s.format 5) (pcm_fused (cond (eqb s.format 2) 2 4) s m w pos want x rows)
    (cond (eqb s.format 6) (adpcm_fused s m table w pos want x rows)
    (record { got = Some want; adpcm = x; rows = each_row (λ c r. r ++ replicate want zero32) 0 rows })))

-- ---- fetch

-- the loop's state
pub record Fetching : Type 0 where
  pub queue : Queue
  pub adpcm : AdpcmContext
  pub rows : List (List Float)
  pub done : ℕ
  pub rounds : ℕ

-- a round's: with whether the loop goes on
pub record Turn : Type 0 where
  pub state : Fetching
  pub going : Bool

-- the end of a span that loops: one loop more, the buffer's end past the limit, the end of the fetch where nothing was got
unfoldable pub loop_fused : Queue → Source → WaveBuffer → ℕ → Moved
loop_fused q s w got =
    let loops = (q.loops + 1) % 2 ^ 32 in
    let limited = s.buffers_v2 && ltb w.loop_count 0x80000000 in
    let past = ltb loops 0x80000000 && ltb w.loop_count loops in
    let looped = at 0 q.played loops q in
    let ended = cond (limited && (eqb got 0 || past)) (end_buffer looped) looped in
    cond (eqb got 0) (record { queue = ended; going = false })
    (record { queue = cond (eqb (s.decoding % 2) 0) ended (at ended.offset 0 ended.loops ended); going = true })

unfoldable pub move_fused : Queue → Source → WaveBuffer → ℕ → ℕ → Moved
unfolding loop_fused
move_fused q s w total got =
    let moved = at ((q.offset + got) % 2 ^ 32) ((q.played + got) % 2 ^ 64) q.loops q in
    cond (leb total moved.offset || eqb got 0)
    (cond w.looping (loop_fused moved s w got) (record { queue = end_buffer (at 0 moved.played moved.loops moved); going = true }))
    (record { queue = moved; going = true })

-- what the loop does with a decode
unfoldable pub turn_of : Fetching → Source → WaveBuffer → ℕ → Decoding → Option ℕ → Turn
unfolding move_fused
turn_of f s w total d None = record {
  state = record { queue = end_buffer (at 0 f.queue.played f.queue.loops f.queue); adpcm = d.adpcm; rows = d.rows; done = f.done; rounds = f.rounds + 1 };
  going = true;
}
turn_of f s w total d (Some got) = record {
  state = record { queue = (move_fused f.queue s w total got).queue; adpcm = d.adpcm; rows = d.rows; done = f.done + got; rounds = f.rounds + 1 };
  going = (move_fused f.queue s w total got).going;
}

unfoldable pub round_fused : Source → List ℕ → List ℤ → ℕ → Fetching → Turn
unfolding decode_fused turn_of
round_fused s m table count f =
    let q = f.queue in
    let w = buffer_at q q.index in
    let read = eqb q.offset 0 && (eqb s.format 6 && (not (eqb w.context 0) && readable_of s.ranges w.context 6)) in
    let x = cond read (context_of (read_of s.ranges m w.context 6)) f.adpcm in
    let looped = in_loop s.buffers_v2 w q.loops in
    let start = cond looped w.loop_start w.start in
    let end = cond looped w.loop_end w.end in
    let total = end - start in
    let want = min (count - f.done) (total - q.offset) in
    let d = decode_fused s m table w ((start + q.offset) % 2 ^ 32) want x f.rows in
    turn_of f s w total d d.got

-- the test at the head of a round
abbrev pub head_of : ℕ → Fetching → Bool
head_of count f = ltb f.done count && get_or f.queue.valid f.queue.index false

-- at most n rounds more
unfoldable pub rounds_fused : ℕ → Bool → Source → List ℕ → List ℤ → ℕ → Fetching → Fetching
unfolding round_fused
rounds_fused zero b s m table count f = f
rounds_fused (suc n) false s m table count f = f
rounds_fused (suc n) true s m table count f =
    let t = round_fused s m table count f in
    rounds_fused n (t.going && head_of count t.state) s m table count t.state

-- Rust's `Vec::resize` with zeros
abbrev pub resized : ℕ → List Float → List Float
resized n r = take n r ++ replicate (n - length r) zero32

-- rows of as many channels as the voice has, each with its history
unfoldable pub fetch_fused : Queue → Source → ℕ → List ℕ → AdpcmContext → List (List Float) → Fetching
unfolding rounds_fused each_row
fetch_fused q s count m x rows =
    let table = table_of (eqb s.format 6 && readable_of s.ranges s.data_source 32) s m in
    let f : Fetching = record { queue = q; adpcm = x; rows = rows; done = 0; rounds = 0 } in
    let g = rounds_fused 64 (head_of count f) s m table count f in
    record { queue = g.queue; adpcm = g.adpcm; rows = each_row (λ c r. resized (3 + count) r) 0 g.rows; done = g.done; rounds = g.rounds }
