-- `voice::stop_slot` meets its contract: index and consumed go on where the slot was valid. Assumes nothing.
use Rattle.std.proofs.Common.{refl}
use Rattle.voice.specs.Slots.{stop_made}
use Rattle.voice.proofs.ready.stop_slot.Goals as goal

pub returns-then-was : goal.returns-then-was
returns-then-was c =
    stop_made c.args.q c.args.k c.if-was.true c.next_slot.ensures refl

pub returns-else-was : goal.returns-else-was
returns-else-was c = stop_made c.args.q c.args.k c.if-was.false refl refl
