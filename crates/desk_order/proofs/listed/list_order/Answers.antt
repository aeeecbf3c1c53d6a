-- `desk_order::listed::list_order` meets its contract: the room that it lends is as long as the mixes are many. Assumes nothing.
use mathlib.Core.Path.{sym}
use Prim.Native.Nat.{ℕ}
use lib.ListN.{replicate}
use lib.Seq.{length-take-le}
use Rattle.desk_order.proofs.listed.list_order.Goals as goal

pub slice_bounds-list_order_in-end : goal.slice_bounds-list_order_in-end
slice_bounds-list_order_in-end c =
    sym (length-take-le c.args.desk.now.mixes.n (replicate {A = ℕ} 32 0) c.args.desk.now.mixes.whole.few)

pub slice_bounds-list_order_in-end-2 : goal.slice_bounds-list_order_in-end-2
slice_bounds-list_order_in-end-2 c =
    sym (length-take-le c.args.desk.now.mixes.n (replicate {A = ℕ} 32 0) c.args.desk.now.mixes.whole.few)

pub list_order_in-requires : goal.list_order_in-requires
list_order_in-requires c =
    let long = length-take-le c.args.desk.now.mixes.n (replicate {A = ℕ} 32 0) c.args.desk.now.mixes.whole.few in (long, long)
