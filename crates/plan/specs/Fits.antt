-- What a plan promises of its acts: their reads succeed, and the samples that they make fit the room asked for. Assumes nothing.
use Rattle.std.specs.Prelude.{◌≡◌, ℕ, zero, suc, ◌+◌, ◌-◌, ◌*◌, ◌/◌, ◌%◌, ◌^◌, ◌<◌, ◌≤◌, min, Bool, true, false, cond, not, ◌&&◌, ◌||◌, List, [], ◌∷◌, ◌++◌, length, ◌==◌, nat_le, nat_lt, refl, Option, Some, None}
use Rattle.std.proofs.Common.{arith, ◌∙◌, eqb-true, leb-true, leb-false, ltb-true, le-leb, lt-ltb, length-set, length-append}
use Rattle.std.specs.Bool.{then_some}
use Rattle.ranges.specs.Ranges.{readable_of}
use Rattle.adpcm.specs.Places.{nibble_of, size_of}
use Rattle.adpcm.specs.Runs.{count_of, count_le}
use Rattle.adpcm.specs.declared.places.Sample.{Sample}
use Rattle.voice.specs.Queue.{buffer_at, end_buffer}
use Rattle.voice.specs.declared.wave.WaveBuffer.{WaveBuffer}
use Rattle.voice.specs.declared.queue.Queue.{Queue}
use Rattle.plan.specs.Source.{Source}
use Rattle.plan.specs.declared.Act.{Act}
use Rattle.plan.specs.declared.Decode.{Decode}
use Rattle.plan.specs.declared.Decode.TheVariants.{Nothing, Pcm, Adpcm, Silence}
use Rattle.plan.specs.declared.attempt.Attempt.{Attempt}
use Rattle.plan.specs.Attempt.{sample, no_samples, pcm_plan, adpcm_plan, decode_plan}
use Rattle.plan.specs.Rounds.{Round, Moved, renews_of, in_loop, loops_over, at, after_missing, after_loop, span_over, after_got}
use Rattle.plan.specs.Rounds.{context_read, round_of, round_plan, Planned, grown, rounds, more, has_table, plan_of}

-- the samples that a decode asks room for
abbrev pub want_of : Decode → ℕ
want_of Nothing = 0
want_of (Pcm width addr n) = n
want_of (Adpcm want addr bytes start) = want
want_of (Silence n) = n

-- the samples that it makes
abbrev pub made_of : Decode → ℕ
made_of Nothing = 0
made_of (Pcm width addr n) = n
made_of (Adpcm want addr bytes start) = count_of bytes start.0 want
made_of (Silence n) = n

-- its read succeeds
abbrev pub reads_of : Source → Decode → Bool
reads_of s Nothing = true
reads_of s (Pcm width addr n) = readable_of s.ranges addr (n * (width * s.channels))
reads_of s (Adpcm want addr bytes start) = readable_of s.ranges addr bytes
reads_of s (Silence n) = true

-- the read of a context succeeds, where one is read
abbrev pub context_reads : Source → Option ℕ → Bool
context_reads s None = true
context_reads s (Some addr) = readable_of s.ranges addr 6

-- PCM is 2 or 4 bytes wide; ADPCM starts below 2^32, and reads from its first sample's byte on no more than its samples take
abbrev pub formed_of : Decode → Bool
formed_of Nothing = true
formed_of (Pcm width addr n) = width == 2 || width == 4
formed_of (Adpcm want addr bytes start) =
    nat_lt start.0 (2 ^ 32) && nat_le (nibble_of start.0 / 2 + bytes) (size_of (start.0 + want))
formed_of (Silence n) = true

-- an act's reads succeed
pub record Reads (s : Source) (a : Act) : Type 0 where
  pub context : context_reads s a.context ≡ true
  pub decode : reads_of s a.decode ≡ true
  pub formed : formed_of a.decode ≡ true

-- acts that begin at made samples and end at done: each has its room below count, and its reads succeed
pub data Fits (s : Source) (count : ℕ) : ℕ → List Act → ℕ → Type 0 where
  fits_none : {made : ℕ} → Fits s count made [] made
  fits_more : {made : ℕ} {a : Act} {acts : List Act} {done : ℕ} → made + want_of a.decode ≤ count → Reads s a
      → Fits s count (made + made_of a.decode) acts done → Fits s count made (a ∷ acts) done

pub made_le : (d : Decode) → made_of d ≤ want_of d
made_le Nothing = omega arith
made_le (Pcm width addr n) = omega arith
made_le (Adpcm want addr bytes start) = count_le bytes start.0 want
made_le (Silence n) = omega arith

-- one act more
fits_snoc : {s : Source} {count made done : ℕ} {acts : List Act} (a : Act) → Fits s count made acts done → done + want_of a.decode ≤ count → Reads s a
    → Fits s count made (acts ++ (a ∷ [])) (done + made_of a.decode)
fits_snoc a fits_none h r = fits_more h r fits_none
fits_snoc a (fits_more g q f) h r = fits_more g q (fits_snoc a f h r)

both : (p q : Bool) → p && q ≡ true → (p ≡ true) × (q ≡ true)
both true q h = (refl, h)
both false q h = absurd (let z : ◌≡◌ {A = ℕ} 0 1 = cc in omega arith)

-- where an ADPCM decode starts, and how many bytes it reads
pub adpcm_formed : (addr bytes : ℕ) (start : Sample) (want : ℕ) → formed_of (Adpcm want addr bytes start) ≡ true
    → (start.0 < 2 ^ 32) × (nibble_of start.0 / 2 + bytes ≤ size_of (start.0 + want))
adpcm_formed addr bytes start want h =
    let b = both (nat_lt start.0 (2 ^ 32)) (nat_le (nibble_of start.0 / 2 + bytes) (size_of (start.0 + want))) h in
    (ltb-true start.0 (2 ^ 32) b.0, leb-true (nibble_of start.0 / 2 + bytes) (size_of (start.0 + want)) b.1)

-- ---- a decode

by_cond : {A : Type 0} (P : A → Type 0) (b : Bool) {x y : A} → (b ≡ true → P x) → (b ≡ false → P y) → P (cond b x y)
by_cond P true f g = f refl
by_cond P false f g = g refl

abbrev got_of : Option ℕ → ℕ
got_of None = 0
got_of (Some n) = n

-- what is tried: its room, what it makes, and that it can be read
record Tried (s : Source) (want : ℕ) (a : Attempt) : Type 0 where
  pub room : want_of a.decode ≤ want
  pub made : made_of a.decode ≡ got_of a.got
  pub reads : reads_of s a.decode ≡ true
  pub formed : formed_of a.decode ≡ true

tried_none : (s : Source) (want : ℕ) → Tried s want no_samples
tried_none s want = record { room = omega arith; made = refl; reads = refl; formed = refl }

tried_pcm : (width : ℕ) (s : Source) (w : WaveBuffer) (start : Sample) (want : ℕ) → (width == 2) || (width == 4) ≡ true → Tried s want (pcm_plan width s w start want)
unfolding pcm_plan
tried_pcm width s w start want h =
    by_cond (Tried s want) (min want (w.size / (width * s.channels) - start.0) == 0) (λ e. tried_none s want)
    (λ e. by_cond (Tried s want) (readable_of s.ranges _ _) (λ r. record { room = omega arith; made = refl; reads = r; formed = h }) (λ r. tried_none s want))

got_count : (n : ℕ) (b : Bool) → (n == 0) ≡ b → n ≡ got_of (cond b None (Some n))
got_count n true e = eqb-true n 0 e
got_count n false e = refl

formed_adpcm : (addr bytes : ℕ) (start : Sample) (want : ℕ) → start.0 < 2 ^ 32
    → nibble_of start.0 / 2 + bytes ≤ size_of (start.0 + want) → formed_of (Adpcm want addr bytes start) ≡ true
formed_adpcm addr bytes start want h l =
    rw (lt-ltb start.0 (2 ^ 32) h) (le-leb (nibble_of start.0 / 2 + bytes) (size_of (start.0 + want)) l)

tried_adpcm : (s : Source) (w : WaveBuffer) (start : Sample) (want : ℕ) → start.0 < 2 ^ 32 → Tried s want (adpcm_plan s w start want)
unfolding adpcm_plan
tried_adpcm s w start want h =
    let first = nibble_of start.0 / 2 in
    let last = min (size_of (start.0 + want)) w.size in
    let addr = (w.addr + first) % 2 ^ 64 in
    let n = count_of (last - first) start.0 want in
    let a : Attempt = record { got = cond (n == 0) None (Some n); decode = Adpcm want addr (last - first) start } in
    by_cond (Tried s want) (nat_le last first) (λ e. tried_none s want)
    (λ e. by_cond (Tried s want) (readable_of s.ranges addr (last - first)) {x = a}
    (λ r. record { room = omega arith; made = got_count n (n == 0) refl; reads = r; formed = formed_adpcm addr (last - first) start want h (omega (arith, leb-false last first e)) })
    (λ r. tried_none s want))

tried_decode : (s : Source) (w : WaveBuffer) (start : Sample) (want : ℕ) → start.0 < 2 ^ 32 → Tried s want (decode_plan s w start want)
unfolding decode_plan
tried_decode s w start want below =
    by_cond (Tried s want) (want == 0) (λ e. record { room = omega arith; made = refl; reads = refl; formed = refl })
    (λ e. by_cond (Tried s want) (s.format == 2) (λ f. tried_pcm 2 s w start want refl)
    (λ f. by_cond (Tried s want) (s.format == 5) (λ g. tried_pcm 4 s w start want refl)
    (λ g. by_cond (Tried s want) (s.format == 6) (λ h. tried_adpcm s w start want below) (λ h. record { room = omega arith; made = refl; reads = refl; formed = refl }))))

-- ---- the queue

-- a queue that moved on from another: its index stays below 4, and there are as many slots
pub record Kept (q r : Queue) : Type 0 where
  pub index : q.index < 4 → r.index < 4
  pub valid : length r.valid ≡ length q.valid
  pub buffers : r.buffers ≡ q.buffers

kept_at : (q : Queue) (offset played loops : ℕ) → Kept q (at offset played loops q)
kept_at q offset played loops = record { index = λ h. h; valid = refl; buffers = refl }

kept_then : {q r t : Queue} → Kept q r → Kept r t → Kept q t
kept_then k l = record { index = λ h. l.index (k.index h); valid = l.valid ∙ k.valid; buffers = l.buffers ∙ k.buffers }

kept_end : (q : Queue) → Kept q (end_buffer q)
unfolding end_buffer
kept_end q = record { index = λ h. omega arith; valid = length-set q.valid q.index false; buffers = refl }

kept_missing : (q : Queue) → Kept q (after_missing q)
unfolding after_missing end_buffer
kept_missing q = record { index = λ h. omega arith; valid = length-set q.valid q.index false; buffers = refl }

kept_loop : (q : Queue) (decoding : ℕ) (v2 : Bool) (w : WaveBuffer) (got : ℕ) → Kept q (after_loop q decoding v2 w got)
unfolding after_loop
kept_loop q decoding v2 w got =
    let l = (q.loops + 1) % 2 ^ 32 in
    let k = kept_at q 0 q.played l in
    kept_then (by_cond (Kept q) (loops_over v2 w.loop_count l got) (λ e. kept_then k (kept_end _)) (λ e. k)) (kept_at _ _ _ _)

kept_got : (q : Queue) (decoding : ℕ) (v2 : Bool) (w : WaveBuffer) (total got : ℕ) → Kept q (after_got q decoding v2 w total got).queue
unfolding after_got
kept_got q decoding v2 w total got =
    let k = kept_at q ((q.offset + got) % 2 ^ 32) ((q.played + got) % 2 ^ 64) q.loops in
    by_cond (λ (m : Moved). Kept q m.queue) (span_over ((q.offset + got) % 2 ^ 32) total got)
    (λ e. by_cond (λ (m : Moved). Kept q m.queue) w.looping (λ f. kept_then k (kept_loop _ decoding v2 w got)) (λ f. kept_then k (kept_missing _)))
    (λ e. k)

-- ---- a round

-- what a round of at most left samples leaves
pub record Rounded (q : Queue) (s : Source) (left : ℕ) (r : Round) : Type 0 where
  pub room : want_of r.act.decode ≤ left
  pub made : made_of r.act.decode ≡ r.got
  pub reads : Reads s r.act
  pub queue : Kept q r.queue

rounded_of : (q : Queue) (s : Source) (w : WaveBuffer) (total left : ℕ) (act : Act) (g : Option ℕ) → want_of act.decode ≤ left → made_of act.decode ≡ got_of g → Reads s act
    → Rounded q s left (round_of q s w total act g)
unfolding round_of
rounded_of q s w total left act None h m r = record { room = h; made = m; reads = r; queue = kept_missing q }
rounded_of q s w total left act (Some n) h m r = record { room = h; made = m; reads = r; queue = kept_got q s.decoding s.buffers_v2 w total n }

renews_reads : (s : Source) (w : WaveBuffer) (offset : ℕ) → renews_of s w offset ≡ true → readable_of s.ranges w.context 6 ≡ true
unfolding renews_of
renews_reads s w offset h =
    (both (not (w.context == 0)) _ (both (s.format == 6) _ (both (offset == 0) _ h).1).1).1

context_reads_made : (s : Source) (w : WaveBuffer) (offset : ℕ) (b : Bool) → renews_of s w offset ≡ b
    → context_reads s (then_some b w.context) ≡ true
context_reads_made s w offset true h = renews_reads s w offset h
context_reads_made s w offset false h = refl

under : (x left room : ℕ) → x ≤ min left room → x ≤ left
under x left room h = omega arith

pub rounded : (q : Queue) (s : Source) (left : ℕ) → Rounded q s left (round_plan q s left)
unfolding round_plan
rounded q s left =
    let w = buffer_at q q.index in
    let looped = in_loop s.buffers_v2 w q.loops in
    let start = cond looped w.loop_start w.start in
    let total = cond looped w.loop_end w.end - start in
    let tried = decode_plan s w (sample ((start + q.offset) % 2 ^ 32)) (min left (total - q.offset)) in
    let act : Act = record { context = context_read s w q.offset; decode = tried.decode } in
    let t = tried_decode s w (sample ((start + q.offset) % 2 ^ 32)) (min left (total - q.offset)) (omega arith) in
    rounded_of q s w total left act tried.got (under (want_of tried.decode) left (total - q.offset) t.room) t.made
    (record { context = context_reads_made s w q.offset (renews_of s w q.offset) refl; decode = t.reads; formed = t.formed })

-- ---- the rounds

-- what holds of a plan of count samples after any of its rounds
pub record Made (q : Queue) (s : Source) (count : ℕ) (p : Planned) : Type 0 where
  pub fits : Fits s count 0 p.acts p.done
  pub upto : p.done ≤ count
  pub rounds : p.rounds ≡ length p.acts
  pub queue : Kept q p.queue

made_round : (q : Queue) (s : Source) (count : ℕ) (p : Planned) → Made q s count p → Made q s count (grown (round_plan p.queue s (count - p.done)) p)
made_round q s count p m =
    let r = round_plan p.queue s (count - p.done) in
    let h = rounded p.queue s (count - p.done) in
    record {
      fits = rw h.made at (fits_snoc r.act m.fits (omega (arith, h.room, m.upto)) h.reads);
      upto = omega (arith, h.room, h.made, made_le r.act.decode, m.upto);
      rounds = simp length-append (omega (arith, m.rounds));
      queue = kept_then m.queue h.queue;
    }

made_rounds : (q : Queue) (s : Source) (count n : ℕ) (b : Bool) (p : Planned) → Made q s count p → Made q s count (rounds n b s count p)
unfolding rounds
made_rounds q s count zero b p m = m
made_rounds q s count (suc n) false p m = m
made_rounds q s count (suc n) true p m = made_rounds q s count n _ _ (made_round q s count p m)

pub plan_made : (q : Queue) (s : Source) (count : ℕ) → Made q s count (plan_of q s count)
unfolding plan_of
plan_made q s count =
    made_rounds q s count 64 (more true q 0 count) _ (record { fits = fits_none; upto = omega arith; rounds = refl; queue = kept_at q q.offset q.played q.loops })

rounds_le : (s : Source) (count n : ℕ) (b : Bool) (p : Planned) → (rounds n b s count p).rounds ≤ p.rounds + n
unfolding rounds
rounds_le s count zero b p = omega arith
rounds_le s count (suc n) false p = omega arith
rounds_le s count (suc n) true p =
    let r = round_plan p.queue s (count - p.done) in
    omega (arith, rounds_le s count n (more r.going r.queue (p.done + r.got) count) (grown r p))

-- at most 64
pub plan_rounds : (q : Queue) (s : Source) (count : ℕ) → (plan_of q s count).rounds ≤ 64
unfolding plan_of
plan_rounds q s count = rounds_le s count 64 (more true q 0 count) _

rounds_table : (s : Source) (count n : ℕ) (b : Bool) (p : Planned) → (rounds n b s count p).table ≡ p.table
unfolding rounds
rounds_table s count zero b p = refl
rounds_table s count (suc n) false p = refl
rounds_table s count (suc n) true p =
    let r = round_plan p.queue s (count - p.done) in
    rounds_table s count n (more r.going r.queue (p.done + r.got) count) (grown r p)

pub plan_table : (q : Queue) (s : Source) (count : ℕ) → (plan_of q s count).table ≡ has_table s
unfolding plan_of
plan_table q s count = rounds_table s count 64 (more true q 0 count) _

-- the queue that a plan leaves has its four slots, and one of them plays
pub index_lt : (q : Queue) (s : Source) (count : ℕ) → q.index < 4 → (plan_of q s count).queue.index < 4
index_lt q s count = (plan_made q s count).queue.index

pub valid_long : (q : Queue) (s : Source) (count : ℕ) → length (plan_of q s count).queue.valid ≡ length q.valid
valid_long q s count = (plan_made q s count).queue.valid
