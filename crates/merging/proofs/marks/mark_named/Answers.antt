-- `marks::mark_named` meets its contract: a step of `marked` at each turn. Assumes nothing.
use mathlib.Core.Path.{refl}
use native.Mathlib.Omega.{arith}
use Rattle.rows.specs.Loops.{turn_begin, turn_more, turn_end}
use Rattle.merging.specs.Marks.{marked}
use Rattle.merging.proofs.Marking.{length_marked_at}
use Rattle.merging.proofs.marks.mark_named.Goals as goal

pub loop-k-init : goal.loop-k-init
loop-k-init c = turn_begin _ _ _ _ c.requires.1

pub mark_voice-requires : goal.mark_voice-requires
mark_voice-requires c =
    (c.loop-k-test.true, c.requires.0, c.loop-k.invariant.kept)

pub loop-k-preserved : goal.loop-k-preserved
loop-k-preserved c =
    let l = c.loop-k in
    turn_more l.invariant c.loop-k-test.true (length_marked_at c.args.n c.args.d.now l.k l.marks) c.mark_voice.ensures

pub returns : goal.returns
unfolding marked
returns c = turn_end c.loop-k.invariant (omega arith) refl
