-- The search for the size of a destination's record. Assumes nothing.
use mathlib.Core.Path.{◌≡◌, refl, sym, ◌∙◌}
use mathlib.Core.List.{List}
use Prim.Native.Nat.{ℕ, suc, zero, ◌+◌, ◌-◌, ◌*◌, ◌≤◌, ◌<◌}
use native.Mathlib.Omega.{arith}
use borrow.Author.Tests.{eq-eqb, ne_eqb}
use Rattle.fields.specs.Fields.{field_at}
use Rattle.splitters.specs.Lists.{destination_magic}
use Rattle.splitters.specs.Destinations.{stride_from}

-- after k tries
pub record Trying (d : List ℕ) (at k : ℕ) : Type 0 where
  pub tries : k ≤ 10
  pub whole : stride_from d at (10 - k) k ≡ stride_from d at 10 0

module _ {d : List ℕ} {at k : ℕ} (g : Trying d at k) where
  pub try_more : {r : ℕ} → k < 10 → r ≡ field_at 4 d (at + (0x70 + k * 0x10)) → (r ≡ destination_magic → ⊥) → Trying d at (k + 1)
  unfolding stride_from
  try_more h e m =
      let one : 10 - k ≡ suc (10 - (k + 1)) = omega arith in
      let t = ne_eqb _ _ (λ x. m (e ∙ x)) in
      record { tries = omega arith; whole = sym (rw one (simp t)) ∙ g.whole }

  pub try_found : {r : ℕ} → k < 10 → r ≡ field_at 4 d (at + (0x70 + k * 0x10)) → r ≡ destination_magic → 0x70 + k * 0x10 ≡ stride_from d at 10 0
  unfolding stride_from
  try_found h e m =
      let one : 10 - k ≡ suc (10 - (k + 1)) = omega arith in
      let t = eq-eqb _ _ (sym e ∙ m) in
      sym (rw one (simp t)) ∙ g.whole

  pub try_none : 10 ≤ k → 0x70 ≡ stride_from d at 10 0
  unfolding stride_from
  try_none h =
      let none : 10 - k ≡ zero = omega arith in
      sym (rw none refl) ∙ g.whole
