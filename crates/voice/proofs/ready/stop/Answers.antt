-- `voice::stop` meets its contract. The loop's invariant: the slots before k are stopped. Assumes nothing.
use Rattle.std.proofs.Common.{arith}
use Rattle.voice.specs.Slots.{stop_begin, stop_more, stop_end}
use Rattle.voice.proofs.ready.stop.Goals as goal

pub loop-k-init : goal.loop-k-init
loop-k-init c = stop_begin _ c.requires

pub stop_slot-q-requires : goal.stop_slot-q-requires
stop_slot-q-requires c = record { k_bound = omega arith; index_bound = c.loop-k.invariant.index }

pub loop-k-preserved : goal.loop-k-preserved
loop-k-preserved c = stop_more _ _ c.loop-k-test.true c.loop-k.invariant c.stop_slot-q.ensures

pub returns : goal.returns
returns c =
    let q = c.args.q in
    stop_end q _ c.loop-k-test.false (c.well_formed.0.1.1.0.1.0.1) (c.well_formed.0.1.1.1.0.1.0.1) c.requires
    (omega arith) c.loop-k.invariant
