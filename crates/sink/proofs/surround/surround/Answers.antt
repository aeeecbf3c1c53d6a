-- `surround::surround` meets its contract: `Framing` holds at each turn. Assumes nothing.
use native.Mathlib.Omega.{arith}
use Rattle.sink.proofs.Framing.{begin, room, more, end}
use Rattle.sink.proofs.surround.surround.Goals as goal

pub put_frame-requires : goal.put_frame-requires
put_frame-requires c =
    room c.loop-i.invariant (omega arith) c.requires

pub loop-i-init : goal.loop-i-init
loop-i-init c = begin _ _ _ _

pub loop-i-preserved : goal.loop-i-preserved
loop-i-preserved c =
    more c.loop-i.invariant (omega arith) c.requires _ _ _ c.one_side-l.ensures
    c.one_side-r.ensures c.put_frame.ensures

pub returns : goal.returns
returns c = end c.loop-i.invariant (omega arith)
