-- `sinks::put_sink` meets its contract. Assumes nothing.
use mathlib.Core.Path.{refl}
use Rattle.desk.proofs.SinkRow.{device, other, is_device_lem, no_device}
use Rattle.desk.proofs.sinks.put_sink.Goals as goal

pub returns-then-byte_at-eq1 : goal.returns-then-byte_at-eq1
returns-then-byte_at-eq1 c =
    device c.args.p.now c.args.k c.args.words.now c.args.floats.now c.requires.0 c.requires.1
    (is_device_lem c.args.p.now c.byte_at.ensures c.if-byte_at-eq1.true) c.put_device.ensures c.put_floats.ensures

pub returns-else-byte_at-eq1 : goal.returns-else-byte_at-eq1
returns-else-byte_at-eq1 c =
    other c.args.p.now c.args.k c.args.words.now c.args.floats.now c.requires.0 c.requires.1
    (no_device c.args.p.now c.byte_at.ensures c.if-byte_at-eq1.false) (cc) refl
