-- `voice::flush_slot` meets its contract: what the two calls give are the parts of `flush_slot`. Assumes nothing.
use Rattle.std.proofs.Common.{refl}
use Rattle.voice.specs.Slots.{flush_made}
use Rattle.voice.proofs.ready.flush_slot.Goals as goal

pub returns : goal.returns
returns c =
    flush_made c.args.q c.args.slot c.next_slot.ensures refl
