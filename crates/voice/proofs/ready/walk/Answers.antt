-- `voice::walk` meets its contract. The loop's invariant: the turns that are left, done, are the whole walk. Assumes nothing.
use Rattle.std.proofs.Common.{arith}
use Rattle.voice.specs.Slots.{flush_begin, flush_more, flush_end}
use Rattle.voice.proofs.ready.walk.Goals as goal

pub loop-turn-init : goal.loop-turn-init
loop-turn-init c = flush_begin _ _ _ c.requires

pub flush_slot-q-requires : goal.flush_slot-q-requires
flush_slot-q-requires c = c.loop-turn.invariant.inside

pub loop-turn-preserved : goal.loop-turn-preserved
loop-turn-preserved c =
    flush_more _ _ _ _ _ c.loop-turn-test.true c.loop-turn.invariant c.flush_slot-q.ensures c.next_slot-slot.ensures

pub returns : goal.returns
returns c =
    let inv = c.loop-turn.invariant in
    let below = inv.below in record { queue_value = flush_end _ _ _ _ _ c.loop-turn-test.false inv; turns_value = omega arith }
