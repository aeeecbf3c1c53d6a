-- A word of the block, as a reader gave it and a test compared it. Assumes nothing.
use mathlib.Core.Path.{◌≡◌, sym, ◌∙◌}
use mathlib.Core.Bool.{true, false}
use mathlib.Core.List.{List}
use Prim.Native.Nat.{ℕ, ◌+◌, ◌^◌, ◌≤◌, ◌<◌}
use native.Mathlib.Omega.{arith}
use borrow.Author.Tests.{eq-eqb, ne_eqb}
use lib.Dec.{eqb}
use lib.ListN.{length}
use Rattle.fields.specs.Fields.{field_at}
use Rattle.fields.specs.Reads.{reach}

module _ (d : List ℕ) (at : ℕ) {r m : ℕ} (e : r ≡ field_at 4 d at) where
  pub sees : r ≡ m → eqb (field_at 4 d at) m ≡ true
  sees h = eq-eqb _ _ (sym e ∙ h)

  pub misses : (r ≡ m → ⊥) → eqb (field_at 4 d at) m ≡ false
  misses h = ne_eqb _ _ (λ x. h (e ∙ x))

  -- a word that is not 0 lies inside
  pub near : r ≡ m → 0 < m → length d < 2 ^ 63 → at < 2 ^ 63
  near h some l =
      let b : at + 4 ≤ length d = reach 4 d at (omega arith) in
      omega arith
