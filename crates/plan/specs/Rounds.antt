-- The rounds of a fetch (mixer.rs `fetch`), as far as they move the position: at most 64, each of the buffer that plays.
use Rattle.std.specs.Prelude.{ℕ, zero, suc, ◌+◌, ◌-◌, ◌%◌, ◌^◌, min, Bool, true, false, cond, not, ◌&&◌, ◌||◌, List, [], ◌∷◌, ◌++◌, ◌==◌, nat_le, nat_lt, slice_index_or, Option, Some, None}
use Rattle.std.specs.Bool.{then_some}
use Rattle.ranges.specs.Ranges.{readable_of}
use Rattle.voice.specs.Queue.{buffer_at, queue_at, end_buffer}
use Rattle.voice.specs.declared.wave.WaveBuffer.{WaveBuffer}
use Rattle.voice.specs.declared.queue.Queue.{Queue}
use Rattle.plan.specs.Attempt.{sample, decode_plan}
use Rattle.plan.specs.Source.{Source}
use Rattle.plan.specs.declared.Act.{Act}
use Rattle.plan.specs.declared.after.Next.{Next}
use Rattle.plan.specs.declared.rounds.Step.{Step}
use Rattle.plan.specs.declared.rounds.Plan.{Plan}

-- the 32 bits are a signed number above 0
abbrev pub is_positive : ℕ → Bool
is_positive x = not (x == 0) && nat_lt x 0x80000000

-- a buffer that begins gets its ADPCM context from memory
unfoldable pub renews_of : Source → WaveBuffer → ℕ → Bool
renews_of s w offset = offset == 0 && (s.format == 6 && (not (w.context == 0) && readable_of s.ranges w.context 6))

-- where it is read from
abbrev pub context_read : Source → WaveBuffer → ℕ → Option ℕ
context_read s w offset = then_some (renews_of s w offset) w.context

-- a buffer that has looped plays its loop span, from revision 8 on
unfoldable pub in_loop : Bool → WaveBuffer → ℕ → Bool
in_loop v2 w loops =
    v2 && (is_positive loops && (not (w.loop_start == 0) && (not (w.loop_end == 0) && nat_le w.loop_start w.loop_end)))

-- the loop that has ended was the last: more than the limit, or it had nothing. The limit is none where it is negative.
unfoldable pub loops_over : Bool → ℕ → ℕ → ℕ → Bool
loops_over v2 limit loops got = v2 && (nat_lt limit 0x80000000 && (got == 0 || (nat_lt loops 0x80000000 && nat_lt limit loops)))

unfoldable pub resets_played : ℕ → ℕ → Bool
resets_played decoding got = not (got == 0) && not (decoding % 2 == 0)

-- the queue at another offset, count of what was played, and loop count
abbrev pub at : ℕ → ℕ → ℕ → Queue → Queue
at offset played loops q = record {
  buffers = q.buffers;
  valid = q.valid;
  index = q.index;
  consumed = q.consumed;
  offset = offset;
  played = played;
  loops = loops;
}

-- the buffer that plays has ended, and the next begins at its start
unfoldable pub after_missing : Queue → Queue
unfolding end_buffer
after_missing q = end_buffer (at 0 q.played q.loops q)

-- played is 0 where the loop resets it
abbrev pub reset_if : Bool → Queue → Queue
reset_if b q = at q.offset (cond b 0 q.played) q.loops q

abbrev pub end_if : Bool → Queue → Queue
end_if over q = cond over (end_buffer q) q

unfoldable pub after_loop : Queue → ℕ → Bool → WaveBuffer → ℕ → Queue
unfolding loops_over resets_played end_buffer
after_loop q decoding v2 w got =
    let loops = (q.loops + 1) % 2 ^ 32 in
    let looped = at 0 q.played loops q in
    reset_if (resets_played decoding got) (end_if (loops_over v2 w.loop_count loops got) looped)

unfoldable pub span_over : ℕ → ℕ → ℕ → Bool
span_over offset total got = nat_le total offset || got == 0

-- the queue after a round, and whether another round may follow
pub record Moved : Type 0 where
  pub queue : Queue
  pub going : Bool

-- after samples of a span of total
unfoldable pub after_got : Queue → ℕ → Bool → WaveBuffer → ℕ → ℕ → Moved
unfolding after_missing after_loop span_over
after_got q decoding v2 w total got =
    let moved = at ((q.offset + got) % 2 ^ 32) ((q.played + got) % 2 ^ 64) q.loops q in
    cond (span_over moved.offset total got)
    (cond w.looping
    (record { queue = after_loop moved decoding v2 w got; going = not (got == 0) })
    (record { queue = after_missing moved; going = true }))
    (record { queue = moved; going = true })

-- what a round leaves: the queue, the samples got, its act, and whether another may follow
pub record Round : Type 0 where
  pub queue : Queue
  pub got : ℕ
  pub act : Act
  pub going : Bool

-- what a decode makes of a round
unfoldable pub round_of : Queue → Source → WaveBuffer → ℕ → Act → Option ℕ → Round
unfolding after_missing after_got
round_of q s w total act None = record { queue = after_missing q; got = 0; act = act; going = true }
round_of q s w total act (Some n) =
    let moved = after_got q s.decoding s.buffers_v2 w total n in
    record { queue = moved.queue; got = n; act = act; going = moved.going }

-- one round, of at most left samples
unfoldable pub round_plan : Queue → Source → ℕ → Round
unfolding renews_of in_loop decode_plan round_of
round_plan q s left =
    let w = buffer_at q q.index in
    let looped = in_loop s.buffers_v2 w q.loops in
    let start = cond looped w.loop_start w.start in
    let end = cond looped w.loop_end w.end in
    let total = end - start in
    let want = min left (total - q.offset) in
    let tried = decode_plan s w (sample ((start + q.offset) % 2 ^ 32)) want in
    round_of q s w total (record { context = context_read s w q.offset; decode = tried.decode }) tried.got

-- a round begins: samples are wanted, and the buffer that plays is valid
unfoldable pub more : Bool → Queue → ℕ → ℕ → Bool
more going q done count = going && (nat_lt done count && slice_index_or q.valid q.index false)

-- what the rounds so far have left
pub record Planned : Type 0 where
  pub queue : Queue
  pub acts : List Act
  pub rounds : ℕ
  pub done : ℕ
  pub table : Bool

abbrev pub grown : Round → Planned → Planned
grown r p = record { queue = r.queue; acts = p.acts ++ (r.act ∷ []); rounds = p.rounds + 1; done = p.done + r.got; table = p.table }

-- at most n rounds more; b says that one begins
unfoldable pub rounds : ℕ → Bool → Source → ℕ → Planned → Planned
unfolding round_plan more
rounds zero b s count p = p
rounds (suc n) false s count p = p
rounds (suc n) true s count p =
    let r = round_plan p.queue s (count - p.done) in
    rounds n (more r.going r.queue (p.done + r.got) count) s count (grown r p)

-- an ADPCM voice's coefficients can be read
unfoldable pub has_table : Source → Bool
has_table s = s.format == 6 && readable_of s.ranges s.data_source 32

unfoldable pub plan_of : Queue → Source → ℕ → Planned
unfolding rounds more has_table
plan_of q s count = rounds 64 (more true q 0 count) s count (record { queue = q; acts = []; rounds = 0; done = 0; table = has_table s })

-- ---- what the code has of these: the wave buffers stand apart, and no act is kept

abbrev pub moved_at : List WaveBuffer → Next → Moved
moved_at b n = record { queue = queue_at b n.spot; going = n.going }

abbrev pub round_at : List WaveBuffer → Step → Round
round_at b r = record { queue = queue_at b r.spot; got = r.got; act = r.act; going = r.going }

abbrev pub without_acts : Planned → Plan
without_acts p = record { queue = p.queue; rounds = p.rounds; done = p.done; table = p.table }
