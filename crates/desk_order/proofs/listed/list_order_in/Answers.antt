-- `desk_order::listed::list_order_in` meets its contract: the order is listed. Assumes nothing.
use mathlib.Core.Path.{◌≡◌, ap, ◌∙◌}
use mathlib.Core.List.{List}
use Prim.Native.Nat.{ℕ, ◌≤◌}
use native.Mathlib.Omega.{arith}
use lib.ListN.{length}
use Rattle.desk_order.specs.DeskOrder.{mix_order}
use Rattle.desk_order.specs.Laws.{mix_order_fits}
use Rattle.desk_order.specs.Listed.{listed_of}
use Rattle.desk_order.proofs.Front.{front_long, front_fits}
use Rattle.desk_order.proofs.listed.list_order_in.Goals as goal

-- there are fewer than mixes
few : (nm ns nd : ℕ) (mixes lists : List ℕ) → nm ≤ 32 → {xs : List ℕ} → xs ≡ mix_order nm ns nd mixes lists → length xs ≤ 31
few nm ns nd mixes lists h e = omega (arith, mix_order_fits nm ns nd mixes lists, ap length e)

pub slice_bounds-listed-end : goal.slice_bounds-listed-end
slice_bounds-listed-end c = let e = c.mix_order-count.ensures in front_fits _ e.0 e.1

pub slice_bounds-listed-end-2 : goal.slice_bounds-listed-end-2
slice_bounds-listed-end-2 c = let e = c.mix_order-count.ensures in front_long _ e.0 e.1

pub listed-requires : goal.listed-requires
listed-requires c =
    few _ _ _ _ _ c.args.desk.now.mixes.whole.few c.mix_order-count.ensures.1

pub returns : goal.returns
returns c =
    c.listed.ensures ∙ ap listed_of c.mix_order-count.ensures.1
