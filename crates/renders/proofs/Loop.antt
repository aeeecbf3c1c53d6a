-- The loop over a section's renders: what is left of the section, done from here, is the whole. Assumes nothing.
use mathlib.Core.Path.{◌≡◌, ap, sym, subst, ◌∙◌}
use mathlib.Core.List.{List, ◌++◌, append_assoc}
use Prim.Native.Nat.{ℕ, suc, ◌+◌, ◌-◌, ◌*◌, ◌≤◌, ◌<◌}
use native.Mathlib.Nat.{mul-le-mul_right, suc-mul}
use native.Mathlib.Omega.{arith}
use lib.Ieee.{Float}
use lib.ListN.{length, take, drop, length-append, length-drop, take-append-drop}
use lib.Seq.{length-take-le, take-append-add, drop-append-add}
use Rattle.rows.specs.Lent.{rest_lent, rest_returned}
use Rattle.ranges.specs.Ranges.{Range}
use Rattle.params.specs.declared.params.Params.{Params}
use Rattle.state.specs.State.{State, Sized, params_in}
use Rattle.whole.specs.Whole.{Whole}
use Rattle.render.specs.Render.{Rendered, rendered, rendered_by, render_of}
use Rattle.render.specs.FromWhole.{whole_playing}
use Rattle.render_turns.specs.Turns.{Playing}
use Rattle.render_keeps.specs.Keeps.{render_params, render_whole}
use Rattle.calls.specs.Calls.{RenderOutcome, render_left, render_done}
use Rattle.calls.specs.Sections.{wide_in, most_renders, section_done}
use Rattle.renders.specs.Sectionable.{Sectionable}
use Rattle.renders.proofs.Rounds.{render_few}
use Rattle.renders.proofs.Sections.{done_number}

-- a render takes at most 64 rounds for each of 64 voices
abbrev pub most_rounds : ℕ
most_rounds = 64 * 64

-- renders that took n rounds and filled the front of the frames, and then those of o
abbrev pub and_then : ℕ → List Float → RenderOutcome → RenderOutcome
and_then n front o = render_left 0 (n + o.rounds) o.state (front ++ o.frames)

-- a render that left x, and k more
abbrev first_then : Rendered → List Range → List ℕ → ℕ → ℕ → RenderOutcome
first_then x rs m wide k = and_then x.rounds (take wide x.frames) (section_done k x.state rs m (drop wide x.frames))

-- of a section whose outcome is `all`: `left` renders are to come, and the next one's frames begin at `at`
pub record Sectioning (p : Params) (rs : List Range) (m : List ℕ) (all : RenderOutcome) (st : State) (frames : List Float)
    (rounds at left : ℕ) : Type 0 where
  pub next : Sectionable p left rs m st (drop at frames)
  pub inside : at ≤ length frames
  pub few : rounds + left * most_rounds ≤ most_renders * most_rounds
  pub joins : and_then rounds (take at frames) (section_done left st rs m (drop at frames)) ≡ all

-- ---- the first

pub sectioning_begin : {p : Params} {count : ℕ} {rs : List Range} {m : List ℕ} {st : State} {frames : List Float}
    → Sectionable p count rs m st frames → count ≤ most_renders
    → Sectioning p rs m (section_done count st rs m frames) st frames 0 0 count
sectioning_begin {count = count} {rs} {m} {st} {frames} h few =
    let o = section_done count st rs m frames in
    let same : 0 + o.rounds ≡ o.rounds = omega arith in
    let number = done_number count st rs m frames in
    record {
      next = h;
      inside = omega arith;
      few = omega arith;
      joins = λ i. render_left (sym number i) (same i) o.state o.frames;
    }

-- the renders that are left, counted in another way
pub sectioning_left : {p : Params} {rs : List Range} {m : List ℕ} {all : RenderOutcome} {st : State} {frames : List Float} {rounds at k n : ℕ}
    → k ≡ n → Sectioning p rs m all st frames rounds at k → Sectioning p rs m all st frames rounds at n
sectioning_left {p} {rs} {m} {all} {st} {frames} {rounds} {at} e g = subst (Sectioning p rs m all st frames rounds at) e g

-- ---- one more

-- by what is left after it, for the parameters that stand in the state
more_by : {rs : List Range} {m : List ℕ} {all : RenderOutcome} {st : State} {frames : List Float} {rounds at k : ℕ}
    → Sectioning (params_in st) rs m all st frames rounds at (suc k)
    → {u : State} {spent : ℕ} {f : List Float} → rendered u spent f ≡ rendered_by (params_in st) rs m st (drop at frames)
    → length f ≡ length (drop at frames)
    → Sectioning (params_in st) rs m all u (take at frames ++ f) (rounds + spent) (at + wide_in st) k
unfolding section_done render_done
more_by {rs} {m} {all} {st} {frames} {rounds} {at} {k} g {u} {spent} {f} e long =
    let p = params_in st in
    let h = g.next in
    let lent = drop at frames in
    let front = take at frames in
    let front_long : length front ≡ at = length-take-le at frames g.inside in
    let room : k * wide_in st + wide_in st ≤ length f = rw (long, ← suc-mul k (wide_in st)) h.room in
    let front_is : take (at + wide_in st) (front ++ f) ≡ front ++ take (wide_in st) f =
    ap (λ (n : ℕ). take (n + wide_in st) (front ++ f)) (sym front_long) ∙ take-append-add front f (wide_in st) in
    let rest_is : drop (at + wide_in st) (front ++ f) ≡ drop (wide_in st) f =
    ap (λ (n : ℕ). drop (n + wide_in st) (front ++ f)) (sym front_long) ∙ drop-append-add front f (wide_in st) in
    let rest = section_done k u rs m (drop (wide_in st) f) in
    let sum : rounds + spent + rest.rounds ≡ rounds + (spent + rest.rounds) = omega arith in
    let state_is : u ≡ (rendered_by p rs m st lent).state = ap (λ (x : Rendered). x.state) e in
    let spent_few : spent ≤ p.voices * 64 = rw (ap (λ (x : Rendered). x.rounds) e) (render_few st h.whole rs m h.memory lent) in
    record {
      next = record {
        whole = subst Whole (sym state_is) (render_whole st h.whole rs m h.memory lent);
        params = ap params_in state_is ∙ render_params st h.whole rs m h.memory lent;
        memory = h.memory;
        room = rw (rest_is, length-drop) (omega (arith, room));
      };
      inside = rw (length-append, front_long) (omega (arith, room));
      few = omega (arith, g.few, spent_few, h.whole.allowed.voices);
      joins = (λ i. and_then (rounds + spent) (front_is i) (section_done k u rs m (rest_is i)))
          ∙ (λ i. render_left 0 (sum i) rest.state (append_assoc front (take (wide_in st) f) rest.frames i))
          ∙ (λ i. and_then rounds front (first_then (e i) rs m (wide_in st) k))
          ∙ g.joins;
    }

-- what the next render asks, and what holds after it
module _ {p : Params} {rs : List Range} {m : List ℕ} {all : RenderOutcome} {st : State} {frames : List Float} {rounds at left : ℕ}
    (g : Sectioning p rs m all st frames rounds at left) (some : 0 < left) where
  pub next_asked : Playing p (render_of p rs) m 0 st
  next_asked =
      subst (λ (q : Params). Playing q (render_of q rs) m 0 st) g.next.params (whole_playing st g.next.whole rs m g.next.memory)

  next_room : 2 * p.sample_count ≤ length (drop at frames)
  next_room =
      let one = mul-le-mul_right (2 * p.sample_count) some in
      omega (arith, g.next.room, one)

  sectioning_more : {u : State} {spent : ℕ} {f : List Float} → rendered u spent f ≡ rendered_by p rs m st (drop at frames)
      → length f ≡ length (drop at frames)
      → Sectioning p rs m all u (take at frames ++ f) (rounds + spent) (at + 2 * p.sample_count) (left - 1)
  sectioning_more {u} {spent} {f} e long =
      let one : left ≡ suc (left - 1) = omega arith in
      let h = subst (Sectioning p rs m all st frames rounds at) one g in
      subst
      (λ (q : Params).
      Sectioning q rs m all st frames rounds at (suc (left - 1))
      → rendered u spent f ≡ rendered_by q rs m st (drop at frames)
      → Sectioning q rs m all u (take at frames ++ f) (rounds + spent) (at + 2 * q.sample_count) (left - 1))
      g.next.params
      (λ h e. more_by h e long)
      h
      e

  -- its frames end inside the slice
  pub next_inside : at + 2 * p.sample_count ≤ length frames
  next_inside = omega (arith, next_room, length-drop at frames, g.inside)

  -- the same of the rest of the slice, as it is lent and comes back
  pub lent_room : 2 * p.sample_count ≤ length (take (length frames - at) (drop at frames))
  lent_room = rw (rest_lent frames at g.inside) next_room

  pub sectioning_returned : {u : State} {spent : ℕ} {f : List Float}
      → rendered u spent f ≡ rendered_by p rs m st (take (length frames - at) (drop at frames))
      → length f ≡ length (take (length frames - at) (drop at frames))
      → Sectioning p rs m all u (take at frames ++ (f ++ drop (length frames - at) (drop at frames))) (rounds + spent)
      (at + 2 * p.sample_count) (left - 1)
  sectioning_returned {u} {spent} {f} e long =
      let lent = rest_lent frames at g.inside in
      rw (rest_returned frames at g.inside f) (sectioning_more (e ∙ ap (rendered_by p rs m st) lent) (long ∙ ap length lent))

-- ---- the last

pub sectioning_end : {p : Params} {rs : List Range} {m : List ℕ} {all : RenderOutcome} {st : State} {frames : List Float}
    {rounds at left : ℕ} → Sectioning p rs m all st frames rounds at left → left ≡ 0 → render_left 0 rounds st frames ≡ all
unfolding section_done
sectioning_end {rs = rs} {m} {all} {st} {frames} {rounds} {at} g e =
    let none : rounds ≡ rounds + 0 = omega arith in
    (λ i. render_left 0 (none i) st (sym (take-append-drop at frames) i))
    ∙ (λ i. and_then rounds (take at frames) (section_done (sym e i) st rs m (drop at frames)))
    ∙ g.joins

-- ---- the slices of the state are as long as its parameters say

pub sectionable_sized : {p : Params} {count : ℕ} {rs : List Range} {m : List ℕ} {st : State} {frames : List Float}
    → Sectionable p count rs m st frames → Sized p st
sectionable_sized {st = st} h = subst (λ (q : Params). Sized q st) h.params h.whole.sized
