-- `pieces::put_resources` meets its contract: a channel resource at each turn. Assumes nothing.
use Prim.Native.Nat.{◌+◌, ◌*◌, ◌≤◌}
use native.Mathlib.Omega.{arith}
use lib.ListN.{length}
use Rattle.rows.specs.Tables.{join_begin, join_room, join_step, join_end}
use Rattle.merging.specs.Merge.{resource_size}
use Rattle.merging.proofs.Lengths.{length_chosen}
use Rattle.merging.proofs.pieces.put_resources.Goals as goal
use Rattle.merging.proofs.pieces.put_resources.Goals.{In-loop-j}

-- resource j is inside
room : (c : In-loop-j)
    → (let l = c.loop-j in
    c.args.at + l.j * resource_size + resource_size ≤ length l.output)
room c =
    join_room c.loop-j.invariant (λ i. length_chosen _ _ _ _) c.loop-j-test.true c.requires.2

pub loop-j-init : goal.loop-j-init
loop-j-init c = join_begin _ _ _ _ _ (omega arith)

pub overflow_add-at : goal.overflow_add-at
overflow_add-at c = omega (arith, room (goal.at.overflow_add-at c).In-loop-j)

pub put_resource-requires : goal.put_resource-requires
put_resource-requires c = (omega arith, room (goal.at.put_resource-requires c).In-loop-j)

pub loop-j-preserved : goal.loop-j-preserved
loop-j-preserved c =
    let l = c.loop-j in
    join_step l.invariant (λ i. length_chosen _ _ _ _) c.loop-j-test.true c.requires.2 c.put_resource.ensures

pub returns : goal.returns
returns c = join_end c.loop-j.invariant (λ i. length_chosen _ _ _ _) (omega arith)
