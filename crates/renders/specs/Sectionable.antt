-- What a section of so many renders needs: a whole state with these parameters, memory that was found right, and room for every frame.
-- Definitions only.
use Rattle.std.specs.Prelude.{◌≡◌, List, ℕ, ◌*◌, ◌≤◌, Float, length}
use Rattle.ranges.specs.Ranges.{Range}
use Rattle.ranges.specs.Ascending.{Ascending}
use Rattle.params.specs.declared.params.Params.{Params}
use Rattle.state.specs.State.{State, params_in}
use Rattle.whole.specs.Whole.{Whole}

pub record Sectionable (p : Params) (count : ℕ) (rs : List Range) (m : List ℕ) (st : State) (frames : List Float) : Type 0 where
  pub whole : Whole st
  pub params : params_in st ≡ p
  pub memory : Ascending (length m) 0 rs
  pub room : count * (2 * p.sample_count) ≤ length frames
