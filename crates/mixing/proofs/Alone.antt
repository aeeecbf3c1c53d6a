-- Where there is no sub-mix, only the final mix's volume is left. Assumes nothing.
use mathlib.Core.Path.{◌≡◌, refl}
use mathlib.Core.List.{List, [], ◌∷◌}
use Prim.Native.Nat.{ℕ, ◌≤◌}
use native.Mathlib.Omega.{arith}
use lib.ListN.{length}
use lib.Ieee.{Float}
use Rattle.desk_order.specs.DeskOrder.{mix_order}
use Rattle.desk_order.specs.Laws.{mix_order_fits}
use Rattle.mixing.specs.Mixing.{run_mixes, final_volume, mixed_down}
use Rattle.mixing.specs.Laws.{mixed_down_from}

-- a list without room for a number
nothing : (xs : List ℕ) → length xs ≤ 0 → [] ≡ xs
nothing [] h = refl
nothing (x ∷ xs) h = absurd (omega arith)

pub mixed_down_alone : (n nm : ℕ) (mixes : List ℕ) (volumes : List Float) (ns nd : ℕ) (lists : List ℕ) (destinations buffers : List Float)
    → {u : List Float} → nm ≡ 1 → u ≡ final_volume n mixes volumes buffers → u ≡ mixed_down n nm mixes volumes ns nd lists destinations buffers
unfolding run_mixes
mixed_down_alone n nm mixes volumes ns nd lists destinations buffers e f =
    mixed_down_from n nm mixes volumes ns nd lists destinations buffers
    (nothing (mix_order nm ns nd mixes lists) (omega (arith, mix_order_fits nm ns nd mixes lists, e))) refl f
