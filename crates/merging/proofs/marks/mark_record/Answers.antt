-- `marks::mark_record` meets its contract: a step of `markedBy` at each turn. Assumes nothing.
use mathlib.Core.Bool.{true}
use mathlib.Core.Path.{refl, ap}
use Prim.Native.Nat.{ℕ}
use native.Mathlib.Omega.{arith}
use lib.ListN.{set, length-set}
use Rattle.rows.specs.Loops.{turn_begin, turn_more, turn_end}
use Rattle.voice_records.specs.Laws.{id_below}
use Rattle.merging.specs.Marks.{marked_by}
use Rattle.merging.proofs.marks.mark_record.Goals as goal

pub loop-c-init : goal.loop-c-init
loop-c-init c = turn_begin _ _ _ _ refl

pub id_at-id-requires : goal.id_at-id-requires
id_at-id-requires c = omega (arith, c.record_channels-channels.ensures)

pub bounds-marks-id : goal.bounds-marks-id
bounds-marks-id c =
    let l = c.loop-c in
    let below = id_below c.args.n c.args.e.now l.c c.requires.0 in
    omega (arith, c.id_at-id.ensures, below, l.invariant.kept, c.requires.1)

pub loop-c-preserved : goal.loop-c-preserved
loop-c-preserved c =
    let l = c.loop-c in
    turn_more l.invariant c.loop-c-test.true (λ h. simp length-set h) (ap (λ (i : ℕ). set l.marks i true) c.id_at-id.ensures)

pub returns : goal.returns
unfolding marked_by
returns c = turn_end c.loop-c.invariant (omega arith) c.record_channels-channels.ensures
