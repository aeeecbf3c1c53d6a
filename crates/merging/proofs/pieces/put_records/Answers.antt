-- `pieces::put_records` meets its contract: a record at each turn. Assumes nothing.
use mathlib.Core.List.{List}
use mathlib.Core.Path.{◌≡◌, ap, ◌∙◌}
use Prim.Native.Nat.{ℕ, ◌+◌, ◌*◌, ◌≤◌}
use native.Mathlib.Omega.{arith}
use lib.ListN.{length}
use Rattle.rows.specs.Rows.{put}
use Rattle.rows.specs.Tables.{join_begin, join_room, join_step, join_end}
use Rattle.merging.specs.Merge.{record_size, padded, chosen_record}
use Rattle.merging.proofs.Lengths.{length_padded}
use Rattle.merging.proofs.pieces.put_records.Goals as goal
use Rattle.merging.proofs.pieces.put_records.Goals.{In-loop-k}

-- record k is inside
room : (c : In-loop-k)
    → (let l = c.loop-k in
    c.args.at + l.k * record_size + record_size ≤ length l.output)
room c =
    join_room c.loop-k.invariant (λ i. length_padded record_size 0 _) c.loop-k-test.true c.requires.1

pub loop-k-init : goal.loop-k-init
loop-k-init c = join_begin _ _ _ _ _ (omega arith)

pub overflow_add-at : goal.overflow_add-at
overflow_add-at c = omega (arith, room (goal.at.overflow_add-at c).In-loop-k)

pub put_padded-requires : goal.put_padded-requires
put_padded-requires c = room (goal.at.put_padded-requires c).In-loop-k

pub loop-k-preserved : goal.loop-k-preserved
loop-k-preserved c =
    let wide : (i : ℕ) → length (padded record_size 0 (chosen_record c.args.d.now c.args.e.now i)) ≡ record_size =
    λ i. length_padded record_size 0 _ in
    join_step c.loop-k.invariant wide c.loop-k-test.true c.requires.1 (c.put_padded.ensures ∙ ap (λ (r : List ℕ). put c.loop-k.output (c.args.at + c.loop-k.k * record_size) (padded record_size 0 r)) c.chosen_record.ensures)

pub returns : goal.returns
returns c = join_end c.loop-k.invariant (λ i. length_padded record_size 0 _) (omega arith)
