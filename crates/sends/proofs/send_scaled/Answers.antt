-- `sends::send_scaled` meets its contract: `Spreading` holds at each turn. Assumes nothing.
use mathlib.Core.Path.{refl}
use native.Mathlib.Omega.{arith}
use Rattle.sends.specs.Sends.{spread_begin, spread_more, spread_end}
use Rattle.sends.proofs.send_scaled.Goals as goal

pub loop-j-init : goal.loop-j-init
loop-j-init c = spread_begin _ _ _ _ _ _ _

pub loop-j-preserved : goal.loop-j-preserved
loop-j-preserved c = spread_more c.loop-j.invariant (omega arith) refl refl c.mix_into.ensures

pub returns : goal.returns
returns c = spread_end c.loop-j.invariant (omega arith)
