use mathlib.Core.Bool.{false}
use Prim.Native.Nat.{ℕ}
use lib.ListN.{get_or}
use Rattle.rows.specs.Tables.{Joining}
use Rattle.merging.specs.Merge.{resource_size, chosen_resource}
use Rattle.merging.proofs.pieces.put_resources.Given as goal

abbrev pub invariant-loop-j : goal.invariant-loop-j
invariant-loop-j l =
    Joining l.initial.output l.at l.n resource_size (λ (i : ℕ). chosen_resource (get_or l.named i false) l.title l.click i) l.output l.j
