-- Two states with one voice in common. Definitions only.
use Rattle.std.specs.Prelude.{◌≡◌, ℕ}
use Rattle.params.specs.declared.params.Params.{Params}
use Rattle.state.specs.State.{State, params_in}
use Rattle.whole.specs.Whole.{Whole}
use Rattle.state_voices.specs.StateVoices.{voice_in}

-- both are whole and have parameters p, and voice k is the same in both
pub record Own (p : Params) (k : ℕ) (a b : State) : Type 0 where
  pub left : Whole a
  pub right : Whole b
  pub left_params : params_in a ≡ p
  pub right_params : params_in b ≡ p
  pub voice : voice_in k a ≡ voice_in k b
