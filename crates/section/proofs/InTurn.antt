-- The section's records in turn: splitters, and from where they end destinations of the size that is found there. Assumes nothing.
use mathlib.Core.Path.{◌≡◌}
use mathlib.Core.List.{List}
use Prim.Native.Nat.{ℕ, ◌+◌, ◌%◌, ◌≤◌, ◌<◌}
use native.Mathlib.Omega.{arith}
use lib.Ieee.{Float}
use Rattle.splitters.specs.Lists.{lists, splitters_from}
use Rattle.splitters.specs.Destinations.{stride_of, left, destinations_from}
use Rattle.splitters.specs.Section.{rounded_up, records_from}

pub in_turn : (ns nd : ℕ) (d : List ℕ) (from count₁ count₂ : ℕ) (w : List ℕ) (f : List Float) {at stride end r : ℕ} {w₁ w₂ : List ℕ}
    {f₂ : List Float}
    → lists at w₁ ≡ splitters_from ns nd d count₁ from w → stride ≡ stride_of d at count₂
    → left end w₂ f₂ ≡ destinations_from ns nd d stride count₂ at w₁ f → r ≡ rounded_up end
    → left r w₂ f₂ ≡ records_from ns nd d from count₁ count₂ w f
unfolding records_from
in_turn ns nd d from count₁ count₂ w f e₁ e₂ e₃ e₄ = rw (e₄, ← e₁, ← e₂, ← e₃)

-- the multiple of 0x10 that is not below, and nearer than 0x10
pub rounded : (n : ℕ) {r : ℕ} → n ≤ r → r < n + 0x10 → r % 0x10 ≡ 0 → r ≡ rounded_up n
unfolding rounded_up
rounded n low high whole = omega arith
