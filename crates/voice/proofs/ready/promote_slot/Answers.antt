-- `voice::promote_slot` meets its contract: a pending buffer becomes valid, and any other slot is as it was. Assumes nothing.
use Rattle.voice.specs.Slots.{promote_pending, promote_settled}
use Rattle.voice.proofs.ready.promote_slot.Goals as goal

pub returns-then-q-k : goal.returns-then-q-k
returns-then-q-k c = promote_pending c.args.q c.args.k c.if-q-k.true

pub returns-else-q-k : goal.returns-else-q-k
returns-else-q-k c = promote_settled c.args.q c.args.k c.if-q-k.false
