-- The Rust's one loop is the plan, and then the sound of every channel. Assumes nothing.
use Prim.Native.Nat.{ℕ, zero, suc, ◌+◌, ◌-◌, ◌%◌, ◌^◌, ◌≤◌, min}
use Rattle.std.proofs.Common.{arith, ap, ◌∙◌, length-append, take_all}
use Rattle.std.proofs.Math.Bool.{Bool, true, false, cond}
use Rattle.std.specs.Prelude.{not, ◌&&◌, ◌||◌, ◌≡◌, leb, ltb, Float, ℤ, length, replicate, Option, Some, None}
use mathlib.Core.List.{List, [], ◌∷◌, ◌++◌, append-nil, append_assoc}
use Rattle.std.proofs.Math.Path.{refl, sym}
use Rattle.std.proofs.Math.Dec.{eqb}
use Rattle.std.specs.Bool.{then_some}
use Rattle.ranges.specs.Ranges.{Range, readable_of}
use Rattle.memory.specs.Memory.{read_of}
use Rattle.adpcm.specs.Context.{context_of}
use Rattle.adpcm.specs.declared.context.AdpcmContext.{AdpcmContext}
use Rattle.floats.specs.Defs.{zero32}
use Rattle.voice.specs.Queue.{buffer_at, end_buffer}
use Rattle.voice.specs.declared.wave.WaveBuffer.{WaveBuffer}
use Rattle.voice.specs.declared.queue.Queue.{Queue}
use Rattle.ranges.specs.Ascending.{Ascending}
use Rattle.plan.specs.Source.{Source}
use Rattle.plan.specs.declared.Act.{Act}
use Rattle.plan.specs.Attempt.{sample, decode_plan}
use Rattle.plan.specs.Fits.{Fits, fits_none, fits_more, plan_made, plan_table}
use Rattle.plan.specs.Rounds.{Moved, Round, in_loop, at, renews_of, loops_over, resets_played, reset_if, after_missing, after_loop, span_over}
use Rattle.plan.specs.Rounds.{context_read, after_got, round_of, round_plan, more, Planned, grown, rounds, has_table, plan_of}
use Rattle.sound.specs.Sound.{table_of, Deck, renewed_context, perform, perform_all, row_of}
use Rattle.sound.specs.Perform.{fresh}
use Rattle.sound.specs.FusedDecode.{each_same, each_id, each_each, made, decode_same}
use Rattle.sound.specs.Channel.{perform_after, perform_count, all_after}
use Rattle.sound.specs.Fused.{each_row, Decoding, decode_fused, Fetching, Turn, loop_fused, move_fused, turn_of, round_fused, head_of, rounds_fused, resized, fetch_fused}

-- ---- the queue

and_assoc : (a b c : Bool) → (a && b) && c ≡ a && (b && c)
and_assoc true b c = refl
and_assoc false b c = refl

reset_by : (z o : Bool) (e : Queue)
    → ◌≡◌ {A = Moved} (cond z (record { queue = e; going = false }) (record { queue = cond o e (at e.offset 0 e.loops e); going = true }))
    (record { queue = reset_if (not z && not o) e; going = not z })
reset_by true o e = refl
reset_by false true e = refl
reset_by false false e = refl

loop_same : (q : Queue) (s : Source) (w : WaveBuffer) (got : ℕ) → loop_fused q s w got ≡ record { queue = after_loop q s.decoding s.buffers_v2 w got; going = not (eqb got 0) }
unfolding loop_fused after_loop loops_over resets_played
loop_same q s w got =
    let loops = (q.loops + 1) % 2 ^ 32 in
    let looped = at 0 q.played loops q in
    (λ i.
    let e = cond (and_assoc s.buffers_v2 (ltb w.loop_count 0x80000000) (eqb got 0 || (ltb loops 0x80000000 && ltb w.loop_count loops)) i) (end_buffer looped) looped in
    cond (eqb got 0) (record { queue = e; going = false }) (record { queue = cond (eqb (s.decoding % 2) 0) e (at e.offset 0 e.loops e); going = true }))
    ∙ reset_by (eqb got 0) (eqb (s.decoding % 2) 0) _

move_same : (q : Queue) (s : Source) (w : WaveBuffer) (total got : ℕ) → move_fused q s w total got ≡ after_got q s.decoding s.buffers_v2 w total got
unfolding move_fused after_got span_over after_missing
move_same q s w total got =
    let moved = at ((q.offset + got) % 2 ^ 32) ((q.played + got) % 2 ^ 64) q.loops q in
    λ i.
    cond (leb total moved.offset || eqb got 0)
    (cond w.looping (loop_same moved s w got i) (record { queue = end_buffer (at 0 moved.played moved.loops moved); going = true }))
    (record { queue = moved; going = true })

-- ---- a round

-- the state after a round of the plan, with a decode's context and rows
abbrev turned : Fetching → Round → AdpcmContext → List (List Float) → Turn
turned f r x rows = record { state = record { queue = r.queue; adpcm = x; rows = rows; done = f.done + r.got; rounds = f.rounds + 1 }; going = r.going }

turn_same : (f : Fetching) (s : Source) (w : WaveBuffer) (total : ℕ) (d : Decoding) (act : Act) (g : Option ℕ)
    → turn_of f s w total d g ≡ turned f (round_of f.queue s w total act g) d.adpcm d.rows
unfolding turn_of round_of after_missing
turn_same f s w total d act None =
    let e : f.done ≡ f.done + 0 = omega arith in
    λ i. record {
      state = record { queue = end_buffer (at 0 f.queue.played f.queue.loops f.queue); adpcm = d.adpcm; rows = d.rows; done = e i; rounds = f.rounds + 1 };
      going = true;
    }
turn_same f s w total d act (Some n) = λ i. record {
  state = record { queue = (move_same f.queue s w total n i).queue; adpcm = d.adpcm; rows = d.rows; done = f.done + n; rounds = f.rounds + 1 };
  going = (move_same f.queue s w total n i).going;
}

act_of : (q : Queue) (s : Source) (w : WaveBuffer) (total : ℕ) (act : Act) (g : Option ℕ) → (round_of q s w total act g).act ≡ act
unfolding round_of
act_of q s w total act None = refl
act_of q s w total act (Some n) = refl

-- a context that is read where a flag is set
context_if : (rs : List Range) (m : List ℕ) (addr : ℕ) (b : Bool) (x : AdpcmContext)
    → cond b (context_of (read_of rs m addr 6)) x ≡ renewed_context rs m (then_some b addr) x
context_if rs m addr true x = refl
context_if rs m addr false x = refl

module _ (s : Source) (m : List ℕ) (table : List ℤ) (laid : Ascending (length m) 0 s.ranges) (count : ℕ) where
  -- a round, of channels whose contexts are z
  round_same : (f : Fetching) (z : ℕ → AdpcmContext) → z 0 ≡ f.adpcm
      → (let r = round_plan f.queue s (count - f.done) in
      round_fused s m table count f
      ≡ turned f r (perform s m table 0 r.act (fresh (z 0))).adpcm (each_row (λ (c : ℕ) (l : List Float). l ++ (perform s m table c r.act (fresh (z c))).out) 0 f.rows))
  unfolding round_fused round_plan perform renews_of
  round_same f z e =
      let q = f.queue in
      let w = buffer_at q q.index in
      let ctx = context_of (read_of s.ranges m w.context 6) in
      let context : Option ℕ = context_read s w q.offset in
      let y : ℕ → AdpcmContext = λ c. renewed_context s.ranges m context (z c) in
      let looped = in_loop s.buffers_v2 w q.loops in
      let start = cond looped w.loop_start w.start in
      let total = cond looped w.loop_end w.end - start in
      let want = min (count - f.done) (total - q.offset) in
      let pos = (start + q.offset) % 2 ^ 32 in
      let tried = decode_plan s w (sample pos) want in
      let act : Act = record { context = context; decode = tried.decode } in
      let read = eqb q.offset 0 && (eqb s.format 6 && (not (eqb w.context 0) && readable_of s.ranges w.context 6)) in
      let begun : cond read ctx f.adpcm ≡ y 0 = (λ i. cond read ctx (sym e i)) ∙ context_if s.ranges m w.context read (z 0) in
      let d : decode_fused s m table w pos want (cond read ctx f.adpcm) f.rows ≡ made s m table laid f.rows y tried =
      (λ i. decode_fused s m table w pos want (begun i) f.rows) ∙ decode_same s m table laid f.rows y w (sample pos) want in
      (λ i. turn_of f s w total (d i) (d i).got) ∙ turn_same f s w total (made s m table laid f.rows y tried) act tried.got
      ∙ (λ i.
      let a = sym (act_of q s w total act tried.got) i in
      turned f (round_of q s w total act tried.got) (perform s m table 0 a (fresh (z 0))).adpcm (each_row (λ (c : ℕ) (l : List Float). l ++ (perform s m table c a (fresh (z c))).out) 0 f.rows))

  -- ---- the rounds

  module _ (x : AdpcmContext) (rows : List (List Float)) where
    -- the loop's state, by the plan so far
    abbrev state_of : Planned → Fetching
    state_of p = record {
      queue = p.queue;
      adpcm = (perform_all s m table 0 p.acts (fresh x)).adpcm;
      rows = each_row (λ (c : ℕ) (l : List Float). l ++ (perform_all s m table c p.acts (fresh x)).out) 0 rows;
      done = p.done;
      rounds = p.rounds;
    }

    step_same : (p : Planned) → (let r = round_plan p.queue s (count - p.done) in round_fused s m table count (state_of p) ≡ record { state = state_of (grown r p); going = r.going })
    step_same p =
        let r = round_plan p.queue s (count - p.done) in
        let z : ℕ → AdpcmContext = λ c. (perform_all s m table c p.acts (fresh x)).adpcm in
        let after : (c : ℕ) (l : List Float) → (l ++ (perform_all s m table c p.acts (fresh x)).out) ++ (perform s m table c r.act (fresh (z c))).out ≡ l ++ (perform_all s m table c (p.acts ++ (r.act ∷ [])) (fresh x)).out =
        λ c l. append_assoc l _ _ ∙ ap (λ (d : Deck). l ++ d.out) (sym (all_after s m table c p.acts r.act (fresh x))) in
        let together = each_each (λ (c : ℕ) (l : List Float). l ++ (perform s m table c r.act (fresh (z c))).out) (λ (c : ℕ) (l : List Float). l ++ (perform_all s m table c p.acts (fresh x)).out) 0 rows
        ∙ each_same _ _ after 0 rows in
        round_same (state_of p) z refl
        ∙ (λ i. record {
          state = record {
            queue = r.queue;
            adpcm = (sym (all_after s m table 0 p.acts r.act (fresh x)) i).adpcm;
            rows = together i;
            done = p.done + r.got;
            rounds = p.rounds + 1;
          };
          going = r.going;
        })

    rounds_same : (n : ℕ) (b : Bool) (p : Planned) → rounds_fused n b s m table count (state_of p) ≡ state_of (rounds n b s count p)
    unfolding rounds_fused rounds more
    rounds_same zero b p = refl
    rounds_same (suc n) false p = refl
    rounds_same (suc n) true p =
        (λ i. rounds_fused n ((step_same p i).going && head_of count (step_same p i).state) s m table count (step_same p i).state)
        ∙ rounds_same n _ (grown (round_plan p.queue s (count - p.done)) p)

-- ---- the rows at the end

-- each row has its history
pub data Histories : List (List Float) → Type 0 where
  no_rows : Histories []
  a_row : {h : List Float} {rows : List (List Float)} → length h ≡ 3 → Histories rows → Histories (h ∷ rows)

each_where : (f g : ℕ → List Float → List Float) → ((c : ℕ) (h : List Float) → length h ≡ 3 → f c h ≡ g c h) → (c : ℕ) {rows : List (List Float)} → Histories rows
    → each_row f c rows ≡ each_row g c rows
unfolding each_row
each_where f g e c no_rows = refl
each_where f g e c (a_row {h} l r) = λ i. e c h l i ∷ each_where f g e (suc c) r i

-- the samples are as many as the plan says
all_count : (s : Source) (m : List ℕ) (table : List ℤ) (c count : ℕ) {made done : ℕ} {acts : List Act} → Ascending (length m) 0 s.ranges → Fits s count made acts done
    → (x : AdpcmContext) (o : List Float) → length o ≡ made → length (perform_all s m table c acts (record { adpcm = x; out = o })).out ≡ done
unfolding perform_all
all_count s m table c count z fits_none x o e = e
all_count s m table c count z (fits_more {a = a} {acts} h r f) x o e =
    let p = perform s m table c a (fresh x) in
    ap (λ (k : Deck). length (perform_all s m table c acts k).out) (perform_after s m table c a x o)
    ∙ all_count s m table c count z f p.adpcm (o ++ p.out) (length-append o p.out ∙ (λ i. e i + perform_count s m table c a x z r i))

resized_row : (h o : List Float) (count done : ℕ) (x : AdpcmContext) → length h ≡ 3 → length o ≡ done → done ≤ count
    → resized (3 + count) (h ++ o) ≡ row_of h count done (record { adpcm = x; out = o })
unfolding row_of
resized_row h o count done x eh eo le =
    let n : length (h ++ o) ≡ 3 + done = length-append h o ∙ (λ i. eh i + eo i) in
    let d : 3 + count - length (h ++ o) ≡ count - done = omega (arith, n) in
    (λ i. take_all (3 + count) (h ++ o) (omega (arith, n)) i ++ replicate (d i) zero32) ∙ append_assoc h o (replicate (count - done) zero32)

-- ---- the whole

abbrev begun : Queue → AdpcmContext → List (List Float) → Fetching
begun q x rows = record { queue = q; adpcm = x; rows = rows; done = 0; rounds = 0 }

abbrev finished : ℕ → Fetching → Fetching
finished count g = record { queue = g.queue; adpcm = g.adpcm; rows = each_row (λ (c : ℕ) (r : List Float). resized (3 + count) r) 0 g.rows; done = g.done; rounds = g.rounds }

abbrev unplanned : Queue → Source → Planned
unplanned q s = record { queue = q; acts = []; rounds = 0; done = 0; table = has_table s }

abbrev reads_table : Source → Bool
reads_table s = eqb s.format 6 && readable_of s.ranges s.data_source 32

fetch_is : (q : Queue) (s : Source) (count : ℕ) (m : List ℕ) (x : AdpcmContext) (rows : List (List Float))
    → fetch_fused q s count m x rows ≡ finished count (rounds_fused 64 (head_of count (begun q x rows)) s m (table_of (reads_table s) s m) count (begun q x rows))
unfolding fetch_fused
fetch_is q s count m x rows = refl

plan_is : (q : Queue) (s : Source) (count : ℕ) (x : AdpcmContext) (rows : List (List Float)) → rounds 64 (head_of count (begun q x rows)) s count (unplanned q s) ≡ plan_of q s count
unfolding plan_of more
plan_is q s count x rows = refl

table_is : (s : Source) → has_table s ≡ reads_table s
unfolding has_table
table_is s = refl

module _ (q : Queue) (s : Source) (count : ℕ) (m : List ℕ) (x : AdpcmContext) (rows : List (List Float)) (laid : Ascending (length m) 0 s.ranges) where
  begun_same : (table : List ℤ) → begun q x rows ≡ state_of s m table laid count x rows (unplanned q s)
  unfolding perform_all
  begun_same table = λ i. begun q x ((each_id 0 rows ∙ each_same _ _ (λ c r. sym (append-nil r)) 0 rows) i)

  ended_same : (table : List ℤ) (p : Planned) → Fits s count 0 p.acts p.done → p.done ≤ count → Histories rows
      → finished count (state_of s m table laid count x rows p)
      ≡ record {
        queue = p.queue;
        adpcm = (perform_all s m table 0 p.acts (fresh x)).adpcm;
        rows = each_row (λ (c : ℕ) (h : List Float). row_of h count p.done (perform_all s m table c p.acts (fresh x))) 0 rows;
        done = p.done;
        rounds = p.rounds;
      }
  ended_same table p f le hs =
      let e = each_each (λ (c : ℕ) (r : List Float). resized (3 + count) r) (λ (c : ℕ) (l : List Float). l ++ (perform_all s m table c p.acts (fresh x)).out) 0 rows
      ∙ each_where _ (λ (c : ℕ) (h : List Float). row_of h count p.done (perform_all s m table c p.acts (fresh x)))
      (λ c h l. resized_row h _ count p.done (perform_all s m table c p.acts (fresh x)).adpcm l (all_count s m table c count laid f x [] refl) le) 0 hs in
      λ i. record { queue = p.queue; adpcm = (perform_all s m table 0 p.acts (fresh x)).adpcm; rows = e i; done = p.done; rounds = p.rounds }

-- the Rust's fetch is the plan, and the sound of every channel
pub fused : (q : Queue) (s : Source) (count : ℕ) (m : List ℕ) (x : AdpcmContext) (rows : List (List Float)) → Ascending (length m) 0 s.ranges → Histories rows
    → (let p = plan_of q s count in
    let table = table_of p.table s m in
    fetch_fused q s count m x rows
    ≡ record {
      queue = p.queue;
      adpcm = (perform_all s m table 0 p.acts (fresh x)).adpcm;
      rows = each_row (λ (c : ℕ) (h : List Float). row_of h count p.done (perform_all s m table c p.acts (fresh x))) 0 rows;
      done = p.done;
      rounds = p.rounds;
    })
fused q s count m x rows laid hs =
    let p = plan_of q s count in
    let table = table_of p.table s m in
    let b = head_of count (begun q x rows) in
    let t : reads_table s ≡ p.table = sym (table_is s) ∙ sym (plan_table q s count) in
    fetch_is q s count m x rows
    ∙ (λ i. finished count (rounds_fused 64 b s m (table_of (t i) s m) count (begun_same q s count m x rows laid (table_of (t i) s m) i)))
    ∙ ap (finished count) (rounds_same s m table laid count x rows 64 b (unplanned q s))
    ∙ ap (λ (p : Planned). finished count (state_of s m table laid count x rows p)) (plan_is q s count x rows)
    ∙ ended_same q s count m x rows laid table p (plan_made q s count).fits (plan_made q s count).upto hs
