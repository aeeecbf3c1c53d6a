-- `desk_order::listed::listed` meets its contract. Assumes nothing.
use mathlib.Core.Path.{◌≡◌}
use mathlib.Core.List.{List}
use Prim.Native.Nat.{ℕ}
use lib.ListN.{length, replicate}
use borrow.Author.Rules.{rules}
use Rattle.rows.specs.Rows.{put}
use Rattle.desk_order.specs.declared.listed.MixOrder.{MixOrder}
use Rattle.desk_order.specs.Listed.{listed_of}
use Rattle.desk_order.proofs.listed.listed.Goals as goal

listing : (xs : List ℕ) {mixes : List ℕ} {n : ℕ} → n ≡ length xs → mixes ≡ put (replicate 31 0) 0 xs
    → ◌≡◌ {A = MixOrder} (record { count = n; mixes = mixes }) (listed_of xs)
listing xs l e = λ i. record { count = l i; mixes = e i }

pub returns : goal.returns
returns c = listing _ (search rules) c.copy_in.ensures
