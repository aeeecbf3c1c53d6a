-- What the functions of a plan put together is what their definitions say. Assumes nothing.
use Rattle.std.specs.Prelude.{◌≡◌, ℕ, ◌+◌, ◌-◌, ◌*◌, ◌/◌, ◌%◌, ◌^◌, min, Bool, true, false, cond, not, ◌==◌, ◌≢◌, nat_eq, nat_le, refl, Option, Some, None}
use Rattle.std.proofs.Common.{ap, sym, ◌∙◌, arith}
use borrow.Author.Tests.{eq-eqb, ne_eqb, leb-true, leb-false}
use Rattle.ranges.specs.Ranges.{readable_of}
use Rattle.adpcm.specs.Places.{nibble_of, size_of}
use Rattle.adpcm.specs.Runs.{count_of}
use Rattle.adpcm.specs.declared.places.Sample.{Sample}
use Rattle.voice.specs.Queue.{buffer_at}
use Rattle.voice.specs.declared.wave.WaveBuffer.{WaveBuffer}
use Rattle.voice.specs.declared.queue.Queue.{Queue}
use Rattle.plan.specs.Source.{Source}
use Rattle.plan.specs.declared.Act.{Act}
use Rattle.plan.specs.declared.Decode.TheVariants.{Nothing, Pcm, Adpcm, Silence}
use Rattle.plan.specs.declared.attempt.Attempt.{Attempt}
use Rattle.plan.specs.Attempt.{sample, no_samples, pcm_plan, adpcm_plan, decode_plan}
use Rattle.plan.specs.Rounds.{Moved, context_read, in_loop, loops_over, resets_played, at, end_if, reset_if}
use Rattle.plan.specs.Rounds.{after_missing, after_loop, span_over, after_got, round_of, round_plan}

-- ---- decodes

-- the frames there are, and whether they can be read
pub pcm_made : (width : ℕ) (s : Source) (w : WaveBuffer) (start : Sample) (want : ℕ) {n addr : ℕ} {e b : Bool}
    → n ≡ min want (w.size / (width * s.channels) - start.0) → (n == 0) ≡ e → addr ≡ (w.addr + start.0 * (width * s.channels)) % 2 ^ 64
    → readable_of s.ranges addr (n * (width * s.channels)) ≡ b
    → cond e no_samples (cond b (record { got = Some n; decode = Pcm width addr n }) no_samples) ≡ pcm_plan width s w start want
unfolding pcm_plan
pcm_made width s w start want hn he ha hb = λ i.
    cond ((sym he ∙ ap (λ (x : ℕ). nat_eq x 0) hn) i) no_samples
    (cond ((sym hb ∙ (λ j. readable_of s.ranges (ha j) (hn j * (width * s.channels)))) i)
    (record { got = Some (hn i); decode = Pcm width (ha i) (hn i) })
    no_samples)

-- the bytes from a up to b are none where b is not past a
none_by : (a b : ℕ) (t : Bool) → nat_le b a ≡ t → (b - a == 0) ≡ t
none_by a b true e = eq-eqb (b - a) 0 (omega (arith, leb-true b a e))
none_by a b false e = ne_eqb (b - a) 0 (λ z. omega (arith, leb-false b a e))

-- the bytes from first on, whether there are any, whether they can be read, and how many samples they hold
pub adpcm_made : (s : Source) (w : WaveBuffer) (start : Sample) (want : ℕ) {first bytes addr n : ℕ} {e b z : Bool}
    → first ≡ nibble_of start.0 / 2 → bytes ≡ min (size_of (start.0 + want)) w.size - first → (bytes == 0) ≡ e → addr ≡ (w.addr + first) % 2 ^ 64
    → readable_of s.ranges addr bytes ≡ b → n ≡ count_of bytes start.0 want → (n == 0) ≡ z
    → cond e no_samples (cond b (record { got = cond z None (Some n); decode = Adpcm want addr bytes start }) no_samples) ≡ adpcm_plan s w start want
unfolding adpcm_plan
adpcm_made s w start want {n = n} hf hl he ha hb hn hz =
    let last = min (size_of (start.0 + want)) w.size in
    let l = hl ∙ (λ j. last - hf j) in
    let m = hn ∙ (λ j. count_of (l j) start.0 want) in
    let a = ha ∙ (λ j. (w.addr + hf j) % 2 ^ 64) in
    let e = sym he ∙ (λ j. nat_eq (l j) 0) ∙ none_by (nibble_of start.0 / 2) last _ refl in
    λ i.
    cond (e i) no_samples
    (cond ((sym hb ∙ (λ j. readable_of s.ranges (a j) (l j))) i)
    (record { got = cond ((sym hz ∙ (λ j. nat_eq (m j) 0)) i) None (Some (m i)); decode = Adpcm want (a i) (l i) start })
    no_samples)

module _ (s : Source) (w : WaveBuffer) (start : Sample) (want : ℕ) where
  -- by the format
  pub decode_none : want ≡ 0 → record { got = Some 0; decode = Nothing } ≡ decode_plan s w start want
  unfolding decode_plan
  decode_none h = rw (eq-eqb want 0 h)

  pub decode_pcm16 : (want ≢ 0) → s.format ≡ 2 → pcm_plan 2 s w start want ≡ decode_plan s w start want
  unfolding decode_plan
  decode_pcm16 h e = rw (ne_eqb want 0 h, e)

  pub decode_float : (want ≢ 0) → s.format ≡ 5 → pcm_plan 4 s w start want ≡ decode_plan s w start want
  unfolding decode_plan
  decode_float h e = rw (ne_eqb want 0 h, e)

  pub decode_adpcm_lem : (want ≢ 0) → s.format ≡ 6 → adpcm_plan s w start want ≡ decode_plan s w start want
  unfolding decode_plan
  decode_adpcm_lem h e = rw (ne_eqb want 0 h, e)

  pub decode_other : (want ≢ 0) → (s.format ≢ 2) → (s.format ≢ 5) → (s.format ≢ 6)
      → record { got = Some want; decode = Silence want } ≡ decode_plan s w start want
  unfolding decode_plan
  decode_other h h₂ h₅ h₆ = rw (ne_eqb want 0 h, ne_eqb s.format 2 h₂, ne_eqb s.format 5 h₅, ne_eqb s.format 6 h₆)

-- ---- the queue after a round

pub loop_made : (q : Queue) (decoding : ℕ) (v2 : Bool) (w : WaveBuffer) (got : ℕ) {loops : ℕ} {over t : Bool} {ended : Queue}
    → loops ≡ (q.loops + 1) % 2 ^ 32 → over ≡ loops_over v2 w.loop_count loops got → ended ≡ end_if over (at 0 q.played loops q)
    → resets_played decoding got ≡ t → reset_if t ended ≡ after_loop q decoding v2 w got
unfolding after_loop
loop_made q decoding v2 w got hl ho he ht =
    let o = ho ∙ (λ j. loops_over v2 w.loop_count (hl j) got) in
    let e = he ∙ (λ j. end_if (o j) (at 0 q.played (hl j) q)) in
    λ i. reset_if (sym ht i) (e i)

-- the span goes on, or has ended, in a loop or not
pub got_made : (q : Queue) (decoding : ℕ) (v2 : Bool) (w : WaveBuffer) (total got : ℕ) {offset played : ℕ} {over loop : Bool} {looped ended : Queue}
    → offset ≡ (q.offset + got) % 2 ^ 32 → played ≡ (q.played + got) % 2 ^ 64 → span_over offset total got ≡ over → w.looping ≡ loop
    → looped ≡ after_loop (at offset played q.loops q) decoding v2 w got → ended ≡ after_missing (at offset played q.loops q)
    → cond over (cond loop (record { queue = looped; going = not (got == 0) }) (record { queue = ended; going = true }))
    (record { queue = at offset played q.loops q; going = true }) ≡ after_got q decoding v2 w total got
unfolding after_got
got_made q decoding v2 w total got hx hp ho hl hq hm =
    let l = hq ∙ (λ j. after_loop (at (hx j) (hp j) q.loops q) decoding v2 w got) in
    let m = hm ∙ (λ j. after_missing (at (hx j) (hp j) q.loops q)) in
    λ i.
    cond ((sym ho ∙ (λ j. span_over (hx j) total got)) i)
    (cond (sym hl i) (record { queue = l i; going = not (got == 0) }) (record { queue = m i; going = true }))
    (record { queue = at (hx i) (hp i) q.loops q; going = true })

-- ---- a round

pub missing_made : (q : Queue) (s : Source) (w : WaveBuffer) (total : ℕ) (act : Act) {g : Option ℕ} {ended : Queue} → g ≡ None → ended ≡ after_missing q
    → record { queue = ended; got = 0; act = act; going = true } ≡ round_of q s w total act g
unfolding round_of
missing_made q s w total act hg he = rw (hg, he)

pub samples_made : (q : Queue) (s : Source) (w : WaveBuffer) (total : ℕ) (act : Act) {g : Option ℕ} {n : ℕ} {m : Moved} → g ≡ Some n → m ≡ after_got q s.decoding s.buffers_v2 w total n
    → record { queue = m.queue; got = n; act = act; going = m.going } ≡ round_of q s w total act g
unfolding round_of
samples_made q s w total act hg hm = rw (hg, hm)

pub round_made : (q : Queue) (s : Source) (left : ℕ) {w : WaveBuffer} {context : Option ℕ} {looped : Bool}
    {start end total room want pos : ℕ} {tried : Attempt} → buffer_at q q.index ≡ w → context ≡ context_read s w q.offset
    → looped ≡ in_loop s.buffers_v2 w q.loops → start ≡ cond looped w.loop_start w.start
    → end ≡ cond looped w.loop_end w.end → total ≡ end - start → room ≡ total - q.offset → want ≡ min left room
    → pos ≡ (start + q.offset) % 2 ^ 32 → tried ≡ decode_plan s w (sample pos) want
    → round_of q s w total (record { context = context; decode = tried.decode }) tried.got ≡ round_plan q s left
unfolding round_plan
round_made q s left hb hr hl hs he ht ho hw hp hd =
    let b = sym hb in
    let r' = hr ∙ (λ j. context_read s (b j) q.offset) in
    let l' = hl ∙ (λ j. in_loop s.buffers_v2 (b j) q.loops) in
    let s' = hs ∙ (λ j. cond (l' j) (b j).loop_start (b j).start) in
    let e' = he ∙ (λ j. cond (l' j) (b j).loop_end (b j).end) in
    let t' = ht ∙ (λ j. e' j - s' j) in
    let w' = hw ∙ (λ j. min left ((ho ∙ (λ k. t' k - q.offset)) j)) in
    let p' = hp ∙ (λ j. (s' j + q.offset) % 2 ^ 32) in
    let d' = hd ∙ (λ j. decode_plan s (b j) (sample (p' j)) (w' j)) in
    λ i. round_of q s (b i) (t' i) (record { context = r' i; decode = (d' i).decode }) (d' i).got
