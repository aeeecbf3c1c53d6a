-- `sink::stereo` meets its contract: `Framing` holds at each turn. Assumes nothing.
use mathlib.Core.Path.{refl}
use native.Mathlib.Omega.{arith}
use Rattle.sink.proofs.Framing.{begin, more, end}
use Rattle.sink.proofs.stereo.Goals as goal

pub loop-i-init : goal.loop-i-init
loop-i-init c = begin _ _ _ _

pub loop-i-preserved : goal.loop-i-preserved
loop-i-preserved c =
    more c.loop-i.invariant (omega arith) (omega arith) _ _ _ refl refl c.put_frame.ensures

pub returns : goal.returns
returns c = end c.loop-i.invariant (omega arith)
