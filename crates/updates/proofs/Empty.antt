-- An update by whether its input has a byte. Assumes nothing.
use mathlib.Core.Path.{◌≡◌, refl, sym, ◌∙◌}
use mathlib.Core.List.{List, [], ◌∷◌}
use Prim.Native.Nat.{ℕ}
use Rattle.std.specs.Prelude.{Bool, true, false, ◌==◌}
use native.Mathlib.Omega.{arith}
use borrow.Author.Tests.{ne_eqb}
use lib.ListN.{length}
use Rattle.params.specs.declared.params.Params.{Params}
use Rattle.state.specs.State.{State}
use Rattle.updates.specs.Update.{changed, updated}

false_true : false ≡ true → ⊥
false_true h = cc

module _ (p : Params) where
  pub updated_none : (input : List ℕ) (st : State) {b : Bool} → b ≡ (length input == 0) → b ≡ true → st ≡ updated p input st
  unfolding updated
  updated_none [] st e h = refl
  updated_none (x ∷ xs) st e h =
      let some : length (x ∷ xs) ≡ 0 → ⊥ = λ (q : length (x ∷ xs) ≡ 0). omega arith in
      absurd (false_true (sym (ne_eqb _ _ some) ∙ sym e ∙ h))

  pub updated_some : (input : List ℕ) (st : State) {b : Bool} → b ≡ (length input == 0) → b ≡ false → changed p input st ≡ updated p input st
  unfolding updated
  updated_some [] st e h = absurd (false_true (sym h ∙ e))
  updated_some (x ∷ xs) st e h = refl
