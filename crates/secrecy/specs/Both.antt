-- Two states of two sessions at the same place in their lists. Assumes nothing.
use Rattle.std.specs.Prelude.{◌≡◌, ℕ}
use Rattle.std.proofs.Common.{ap}
use Rattle.params.specs.declared.params.Params.{Params}
use Rattle.params.specs.Params.{params_of}
use Rattle.state.specs.State.{State, params_in}
use Rattle.whole.specs.Whole.{Whole}
use Rattle.alike.specs.Alike.{Alike}

-- whole states with the same parameters, that differ at most in the sound of voices that are none of P
pub record Both (p : Params) (P : ℕ → Type 0) (a b : State) : Type 0 where
  pub left : Whole a
  pub right : Whole b
  pub params : params_in a ≡ p
  pub alike : Alike p P a b

pub params_same : {p : Params} {P : ℕ → Type 0} {a b : State} → Alike p P a b → params_in a ≡ params_in b
params_same e = ap params_of e.words
