-- A section that succeeds is so many single renders. Assumes nothing.
use mathlib.Core.Path.{◌≡◌, refl, ap, sym, ◌∙◌}
use mathlib.Core.List.{List, ◌∷◌, ◌++◌, map, append_assoc}
use Prim.Native.Nat.{ℕ, zero, suc, ◌+◌, ◌*◌}
use native.Mathlib.Nat.{suc-mul}
use native.Mathlib.Omega.{arith}
use lib.Ieee.{Float}
use lib.ListN.{length, take, drop, replicate, length-append}
use lib.Seq.{drop-drop}
use Rattle.ranges.specs.Ranges.{Range}
use Rattle.params.specs.declared.params.Params.{Params}
use Rattle.state.specs.State.{State}
use Rattle.calls.specs.Calls.{RenderOutcome, render_call}
use Rattle.calls.specs.Sections.{wide_in, section_call}
use Rattle.renders.specs.Singles.{singles, rounds_of, state_left, fronts_of}
use Rattle.renders.proofs.Sections.{section_none, section_more}

-- none of them is refused; its rounds are theirs in sum, its state that of the last, its frames theirs one behind the other, each in its
-- place, and the rest of the slice stays
pub record IsSingles (count wide : ℕ) (st : State) (rs : List Range) (m : List ℕ) (lent : List Float) (o : RenderOutcome)
    : Type 0 where
  pub numbers : map (λ (s : RenderOutcome). s.number) (singles count wide st rs m lent) ≡ replicate count 0
  pub rounds : o.rounds ≡ rounds_of (singles count wide st rs m lent)
  pub state : o.state ≡ state_left st (singles count wide st rs m lent)
  pub frames : o.frames ≡ fronts_of wide (singles count wide st rs m lent) ++ drop (count * wide) lent
  pub long : length (fronts_of wide (singles count wide st rs m lent)) ≡ count * wide

module _ (rs : List Range) (m : List ℕ) where
  by_wide : (count wide : ℕ) (st : State) (frames : List Float) → wide_in st ≡ wide → (section_call st count rs m frames).number ≡ 0
      → IsSingles count wide st rs m frames (section_call st count rs m frames)
  unfolding singles rounds_of state_left fronts_of
  by_wide zero wide st frames e h =
      let none = section_none st rs m frames in
      let nothing : 0 * wide ≡ 0 = omega arith in
      record {
        numbers = refl;
        rounds = ap (λ (o : RenderOutcome). o.rounds) none;
        state = ap (λ (o : RenderOutcome). o.state) none;
        frames = ap (λ (o : RenderOutcome). o.frames) none ∙ ap (λ (n : ℕ). drop n frames) (sym nothing);
        long = sym nothing;
      }
  by_wide (suc k) wide st frames e h =
      let o = render_call st rs m frames in
      let more = section_more st k rs m frames h in
      let behind : drop (wide_in st) o.frames ≡ drop wide frames = more.behind ∙ ap (λ (n : ℕ). drop n frames) e in
      let rest = section_call o.state k rs m (drop wide frames) in
      let same : section_call o.state k rs m (drop (wide_in st) o.frames) ≡ rest = ap (section_call o.state k rs m) behind in
      let wide_same = ap (λ (p : Params). 2 * p.sample_count) more.params ∙ e in
      let s = by_wide k wide o.state (drop wide frames) wide_same (sym (ap (λ (x : RenderOutcome). x.number) same) ∙ more.rest) in
      let first_long : length (take wide o.frames) ≡ wide = (λ i. length (take (sym e i) o.frames)) ∙ more.wide ∙ e in
      let place : wide + k * wide ≡ suc k * wide = omega (arith, suc-mul k wide) in
      let tail : rest.frames ≡ fronts_of wide (singles k wide o.state rs m (drop wide frames)) ++ drop (suc k * wide) frames =
      s.frames
      ∙ ap (λ (l : List Float). fronts_of wide (singles k wide o.state rs m (drop wide frames)) ++ l)
      (drop-drop (k * wide) wide frames ∙ ap (λ (n : ℕ). drop n frames) place) in
      record {
        numbers = λ i. more.first i ∷ s.numbers i;
        rounds = ap (λ (x : RenderOutcome). x.rounds) more.whole
            ∙ (λ i. o.rounds + (same i).rounds)
            ∙ ap (λ (n : ℕ). o.rounds + n) s.rounds;
        state = ap (λ (x : RenderOutcome). x.state) more.whole ∙ (λ i. (same i).state) ∙ s.state;
        frames = ap (λ (x : RenderOutcome). x.frames) more.whole
            ∙ (λ i. take (e i) o.frames ++ (same i).frames)
            ∙ ap (λ (l : List Float). take wide o.frames ++ l) tail
            ∙ sym (append_assoc (take wide o.frames) _ _);
        long = length-append (take wide o.frames) _ ∙ omega (arith, first_long, s.long, suc-mul k wide);
      }

  pub section_singles : (count : ℕ) (st : State) (frames : List Float) → (section_call st count rs m frames).number ≡ 0
      → IsSingles count (wide_in st) st rs m frames (section_call st count rs m frames)
  section_singles count st frames = by_wide count (wide_in st) st frames refl
