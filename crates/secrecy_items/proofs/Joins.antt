-- An item and the calls that stand for it: they leave its state, take its rounds in sum, and give its frames in order; none of those that
-- stand for a section is refused. Assumes nothing.
use mathlib.Core.Path.{◌≡◌, refl, ap, sym, ◌∙◌}
use mathlib.Core.Bool.{Bool, true, false, cond}
use mathlib.Core.List.{List, [], ◌∷◌, ◌++◌, map, append-nil, head-eq_of_cons-eq, tail-eq_of_cons-eq}
use Prim.Native.Nat.{ℕ, zero, suc, ◌+◌, ◌*◌, ◌<◌}
use native.Mathlib.Nat.{suc-mul}
use native.Mathlib.Omega.{arith}
use borrow.Author.Tests.{eqb-true}
use lib.Dec.{eqb}
use lib.Ieee.{Float}
use lib.ListN.{take, drop, replicate}
use lib.Seq.{take_at, drop-drop}
use Rattle.ranges.specs.Ranges.{Range}
use Rattle.params.specs.declared.params.Params.{Params}
use Rattle.state.specs.State.{State}
use Rattle.calls.specs.Calls.{RenderOutcome, render_call}
use Rattle.calls.specs.Sections.{wide_in, section_call}
use Rattle.renders.specs.Singles.{singles, rounds_of, state_left, fronts_of}
use Rattle.renders.proofs.Sections.{section_one, section_refused}
use Rattle.renders.proofs.Singles.{section_singles}
use Rattle.renders.proofs.Left.{section_params}
use Rattle.secrecy.specs.Sessions.{Call, render, Said, said_all, frames_by}
use Rattle.secrecy.specs.Refused.{refused_leaves}
use Rattle.secrecy.specs.Demand.{call_at}
use Rattle.secrecy_items.specs.Items.{Item, single, section, after_item, said_item, frames_item}
use Rattle.secrecy_items.specs.Flat.{renders_from, calls_in, frames_all, rounds_in}
use Rattle.secrecy_items.proofs.Behind.{left_by}

-- ---- the renders that stand for a section

module _ (rs : List Range) (m : List ℕ) where
  -- render i is lent the frames from i * wide on
  pub render_at : (count wide : ℕ) (frames : List Float) (i : ℕ) → i < count
      → call_at (renders_from count wide rs m frames) i ≡ render rs m (drop (i * wide) frames)
  render_at zero wide frames i l = absurd (omega arith)
  render_at (suc k) wide frames zero l =
      let nothing : 0 ≡ 0 * wide = omega arith in
      ap (λ (n : ℕ). render rs m (drop n frames)) nothing
  render_at (suc k) wide frames (suc i) l =
      let place : wide + i * wide ≡ suc i * wide = omega (arith, suc-mul i wide) in
      render_at k wide (drop wide frames) i (omega arith)
      ∙ ap (render rs m) (drop-drop (i * wide) wide frames ∙ ap (λ (n : ℕ). drop n frames) place)

  -- they are the single renders of `singles`: numbers, rounds, state and frames
  numbers_are : (count wide : ℕ) (st : State) (frames : List Float)
      → map (λ (s : Said). s.number) (said_all st (renders_from count wide rs m frames))
      ≡ map (λ (o : RenderOutcome). o.number) (singles count wide st rs m frames)
  unfolding singles
  numbers_are zero wide st frames = refl
  numbers_are (suc k) wide st frames =
      let o = render_call st rs m frames in
      ap (λ (ns : List ℕ). o.number ∷ ns) (numbers_are k wide o.state (drop wide frames))

  rounds_are : (count wide : ℕ) (st : State) (frames : List Float)
      → rounds_in (said_all st (renders_from count wide rs m frames)) ≡ rounds_of (singles count wide st rs m frames)
  unfolding singles rounds_of
  rounds_are zero wide st frames = refl
  rounds_are (suc k) wide st frames =
      let o = render_call st rs m frames in
      ap (λ (n : ℕ). o.rounds + n) (rounds_are k wide o.state (drop wide frames))

  state_is : (count wide : ℕ) (st : State) (frames : List Float)
      → left_by st (renders_from count wide rs m frames) ≡ state_left st (singles count wide st rs m frames)
  unfolding singles state_left
  state_is zero wide st frames = refl
  state_is (suc k) wide st frames = state_is k wide (render_call st rs m frames).state (drop wide frames)

  -- a render keeps the parameters, so that all of them are equally wide
  still_wide : (st : State) (frames : List Float) → wide_in (render_call st rs m frames).state ≡ wide_in st
  still_wide st frames =
      ap (λ (o : RenderOutcome). wide_in o.state) (sym (section_one st rs m frames))
      ∙ ap (λ (p : Params). 2 * p.sample_count) (section_params st 1 rs m frames)

  frames_are : (count wide : ℕ) (st : State) (frames : List Float) → wide_in st ≡ wide
      → map (λ (o : RenderOutcome). o.number) (singles count wide st rs m frames) ≡ replicate count 0
      → frames_all st (renders_from count wide rs m frames) ≡ fronts_of wide (singles count wide st rs m frames)
  unfolding singles fronts_of
  frames_are zero wide st frames e h = refl
  frames_are (suc k) wide st frames e h =
      let o = render_call st rs m frames in
      let first = head-eq_of_cons-eq h in
      let rest = frames_are k wide o.state (drop wide frames) (still_wide st frames ∙ e) (tail-eq_of_cons-eq h) in
      λ i. cond (eqb (first i) 0) (take (e i) o.frames) [] ++ rest i

  -- none of those that stand for a section is refused
  pub section_taken : (count : ℕ) (st : State) (frames : List Float) → (section_call st count rs m frames).number ≡ 0
      → map (λ (s : Said). s.number) (said_all st (renders_from count (wide_in st) rs m frames)) ≡ replicate count 0
  section_taken count st frames h = numbers_are count (wide_in st) st frames ∙ (section_singles rs m count st frames h).numbers

  -- and none stands for a section that is refused
  pub refused_none : (count : ℕ) (st : State) (frames : List Float) → eqb (section_call st count rs m frames).number 0 ≡ false
      → calls_in st (section count rs m frames) ≡ []
  refused_none count st frames h = λ i. cond (h i) (renders_from count (wide_in st) rs m frames) []

-- ---- an item

-- calls that come to the same as one answer does: the state, the rounds and the frames
pub record ComesTo (st : State) (cs : List Call) (after : State) (rounds : ℕ) (frames : List Float) : Type 0 where
  pub state : left_by st cs ≡ after
  pub sum : rounds_in (said_all st cs) ≡ rounds
  pub all : frames_all st cs ≡ frames

-- a section by whether it succeeds
by_success : (st : State) (count : ℕ) (rs : List Range) (m : List ℕ) (frames : List Float) (b : Bool)
    → eqb (section_call st count rs m frames).number 0 ≡ b
    → (let o = section_call st count rs m frames in
    ComesTo st (cond b (renders_from count (wide_in st) rs m frames) []) o.state o.rounds
    (cond b (take (count * wide_in st) o.frames) []))
by_success st count rs m frames true e =
    let wide = wide_in st in
    let s = section_singles rs m count st frames (eqb-true _ _ e) in
    record {
      state = state_is rs m count wide st frames ∙ sym s.state;
      sum = rounds_are rs m count wide st frames ∙ sym s.rounds;
      all = frames_are rs m count wide st frames refl s.numbers
          ∙ sym (take_at _ (drop (count * wide) frames) (count * wide) s.long)
          ∙ ap (take (count * wide)) (sym s.frames);
    }
by_success st count rs m frames false e =
    let stays = sym (section_refused st count rs m frames e) in
    record { state = ap (λ (o : RenderOutcome). o.state) stays; sum = ap (λ (o : RenderOutcome). o.rounds) stays; all = refl }

-- any item and the calls that stand for it
pub item_same : (st : State) (x : Item) → ComesTo st (calls_in st x) (after_item st x) (said_item st x).rounds (frames_item st x)
item_same st (single c) = record { state = refl; sum = omega arith; all = append-nil (frames_by st c) }
item_same st (section count rs m frames) = by_success st count rs m frames (eqb (section_call st count rs m frames).number 0) refl

-- one that is refused leaves the state as it was
pub item_refused : (st : State) (x : Item) → eqb (said_item st x).number 0 ≡ false → after_item st x ≡ st
item_refused st (single c) h = refused_leaves st c h
item_refused st (section count rs m frames) h = ap (λ (o : RenderOutcome). o.state) (section_refused st count rs m frames h)
