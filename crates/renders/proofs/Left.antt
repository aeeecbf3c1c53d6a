-- What a section leaves: a whole state whole, with the same parameters; it takes at most 64 rounds for each voice of each render. Assumes
-- nothing.
use mathlib.Core.Path.{◌≡◌, refl, ap, sym, subst, ◌∙◌}
use mathlib.Core.Bool.{Bool, true, false}
use mathlib.Core.List.{List}
use Prim.Native.Nat.{ℕ, zero, suc, ◌*◌, ◌≤◌}
use native.Mathlib.Nat.{suc-mul}
use native.Mathlib.Omega.{arith}
use borrow.Author.Tests.{eqb-true}
use lib.Dec.{eqb}
use lib.Ieee.{Float}
use lib.ListN.{length, drop}
use Rattle.ranges.specs.Ranges.{Range}
use Rattle.ranges.specs.Ascending.{Ascending}
use Rattle.params.specs.declared.params.Params.{Params}
use Rattle.state.specs.State.{State, params_in}
use Rattle.whole.specs.Whole.{Whole}
use Rattle.render_keeps.specs.Keeps.{render_params, render_whole}
use Rattle.calls.specs.Calls.{RenderOutcome, render_done}
use Rattle.calls.specs.Sections.{wide_in, section_done, section_call}
use Rattle.renders.proofs.Rounds.{render_few}
use Rattle.renders.proofs.Sections.{section_yes, yes_done, yes_ascending, section_refused}

-- an outcome of so many renders
pub record Leaves (count : ℕ) (st : State) (o : RenderOutcome) : Type 0 where
  pub whole : Whole st → Whole o.state
  pub params : params_in o.state ≡ params_in st
  pub rounds : o.rounds ≤ count * ((params_in st).voices * 64)

-- ---- a section that is done

module _ (rs : List Range) (m : List ℕ) (laid : Ascending (length m) 0 rs) where
  pub done_leaves : (count : ℕ) (st : State) (frames : List Float) → Whole st → Leaves count st (section_done count st rs m frames)
  unfolding section_done render_done
  done_leaves zero st frames w = record { whole = λ h. h; params = refl; rounds = omega arith }
  done_leaves (suc k) st frames w =
      let o = render_done st rs m frames in
      let params = render_params st w rs m laid frames in
      let whole = render_whole st w rs m laid frames in
      let rest = done_leaves k o.state (drop (wide_in st) o.frames) whole in
      let voices = ap (λ (p : Params). k * (p.voices * 64)) params in
      record {
        whole = λ h. rest.whole whole;
        params = rest.params ∙ params;
        rounds = omega (arith, render_few st w rs m laid frames, rest.rounds, voices, suc-mul k ((params_in st).voices * 64));
      }

-- ---- any section, whether or not it is refused

module _ (st : State) (count : ℕ) (rs : List Range) (m : List ℕ) (frames : List Float) where
  by_number : (b : Bool) → eqb (section_call st count rs m frames).number 0 ≡ b → Leaves count st (section_call st count rs m frames)
  by_number true e =
      let y = section_yes st count rs m frames (eqb-true _ _ e) in
      subst (Leaves count st) (sym (yes_done st count rs m frames y))
      (done_leaves rs m (yes_ascending st count rs m frames y) count st frames y.whole)
  by_number false e =
      subst (Leaves count st) (sym (section_refused st count rs m frames e))
      (record { whole = λ h. h; params = refl; rounds = omega arith })

  pub section_whole : Whole st → Whole (section_call st count rs m frames).state
  section_whole w = (by_number _ refl).whole w

  pub section_params : params_in (section_call st count rs m frames).state ≡ params_in st
  section_params = (by_number _ refl).params

  pub section_rounds_lem : (section_call st count rs m frames).rounds ≤ count * ((params_in st).voices * 64)
  section_rounds_lem = (by_number _ refl).rounds
