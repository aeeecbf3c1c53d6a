-- `voice::promote` meets its contract. The loop's invariant: the slots before k are promoted. Assumes nothing.
use Rattle.std.proofs.Common.{arith}
use Rattle.voice.specs.Slots.{promote_begin, promote_more, promote_end}
use Rattle.voice.proofs.ready.promote.Goals as goal

pub loop-k-init : goal.loop-k-init
loop-k-init c = (omega arith, promote_begin _)

pub loop-k-preserved : goal.loop-k-preserved
loop-k-preserved c = (omega arith, promote_more _ _ c.loop-k.invariant.1 c.promote_slot-q.ensures)

pub returns : goal.returns
returns c =
    let q = c.args.q in
    promote_end _ q (omega arith) (c.well_formed.0.1.1.0.1.0.1) (c.well_formed.0.1.1.1.0.1.0.1)
    c.loop-k.invariant.1
