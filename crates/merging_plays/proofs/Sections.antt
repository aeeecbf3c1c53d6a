-- A section, or a render, of each of two states with voice k in common: the answers are the same, and it stays in common. Assumes nothing.
use mathlib.Core.Path.{◌≡◌, refl, ap, sym, subst}
use mathlib.Core.Bool.{Bool, true, false, cond}
use mathlib.Core.List.{List, []}
use Prim.Native.Nat.{ℕ, ◌<◌}
use borrow.Author.Tests.{eqb-true}
use lib.Dec.{eqb}
use lib.Ieee.{Float}
use lib.ListN.{length}
use Rattle.ranges.specs.Ranges.{Range}
use Rattle.params.specs.declared.params.Params.{Params}
use Rattle.state.specs.State.{State}
use Rattle.voice_render.specs.Next.{voice_rounds}
use Rattle.render.specs.Render.{render_of}
use Rattle.calls.specs.Calls.{RenderOutcome, render_call}
use Rattle.calls.specs.Sections.{section_call}
use Rattle.renders.proofs.Sections.{section_yes, yes_done, yes_ascending, section_refused, section_one}
use Rattle.secrecy.specs.Sessions.{render}
use Rattle.secrecy_items.specs.Items.{single, section}
use Rattle.secrecy_items.proofs.Alikes.{section_answers}
use Rattle.merging_plays.specs.Own.{Own}
use Rattle.merging_plays.specs.Told.{told_of, rounds_over}
use Rattle.merging_plays.proofs.Steps.{own_at, params_both, renders_own}
use Rattle.merging_plays.proofs.Updates.{ToldAlike}

module _ {p : Params} {k : ℕ} (h : k < p.voices) {a b : State} (o : Own p k a b) (rs : List Range) (m m' : List ℕ)
    (frames frames' : List Float) (long : length m ≡ length m') (wide : length frames ≡ length frames') where
  -- two outcomes with one number that leave voice k in common
  record Outcomes (x y : RenderOutcome) : Type 0 where
    number : x.number ≡ y.number
    own : Own p k x.state y.state

  -- so many renders in one section
  module _ (count : ℕ) where
    abbrev mine : RenderOutcome
    mine = section_call a count rs m frames

    abbrev other : RenderOutcome
    other = section_call b count rs m' frames'

    number_same : mine.number ≡ other.number
    number_same = section_answers o.left o.right (params_both h o) count rs m m' frames frames' long wide

    -- by whether they are refused
    own_by : (t : Bool) → eqb mine.number 0 ≡ t → eqb other.number 0 ≡ t → Own p k mine.state other.state
    own_by true e e' =
        let y = section_yes a count rs m frames (eqb-true _ _ e) in
        let y' = section_yes b count rs m' frames' (eqb-true _ _ e') in
        own_at (ap (λ (x : RenderOutcome). x.state) (yes_done a count rs m frames y))
        (ap (λ (x : RenderOutcome). x.state) (yes_done b count rs m' frames' y'))
        (renders_own h rs m m' (yes_ascending a count rs m frames y) (yes_ascending b count rs m' frames' y') count o frames frames')
    own_by false e e' =
        own_at (ap (λ (x : RenderOutcome). x.state) (section_refused a count rs m frames e))
        (ap (λ (x : RenderOutcome). x.state) (section_refused b count rs m' frames' e')) o

    section_outcomes : Outcomes mine other
    section_outcomes = record {
      number = number_same;
      own = own_by (eqb mine.number 0) refl (ap (λ (n : ℕ). eqb n 0) (sym number_same));
    }

    pub sections_tell : ToldAlike p k a b (section count rs m frames) (section count rs m' frames')
    sections_tell =
        let params = params_both h o in
        record {
          told = λ i. told_of (number_same i) []
              (cond (eqb (number_same i) 0) (rounds_over count (render_of (params i) rs) (o.voice i)) 0);
          own = section_outcomes.own;
        }

  -- a render is a section of one
  render_outcomes : Outcomes (render_call a rs m frames) (render_call b rs m' frames')
  render_outcomes =
      subst (λ (x : RenderOutcome). Outcomes x (render_call b rs m' frames')) (section_one a rs m frames)
      (subst (Outcomes (section_call a 1 rs m frames)) (section_one b rs m' frames') (section_outcomes 1))

  pub renders_tell : ToldAlike p k a b (single (render rs m frames)) (single (render rs m' frames'))
  renders_tell =
      let params = params_both h o in
      let number = render_outcomes.number in
      record {
        told = λ i. told_of (number i) [] (cond (eqb (number i) 0) (voice_rounds (render_of (params i) rs) (o.voice i)) 0);
        own = render_outcomes.own;
      }
