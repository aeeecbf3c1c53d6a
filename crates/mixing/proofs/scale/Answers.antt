-- `mixing::scale` meets its contract: `Scaling` holds at each turn. Assumes nothing.
use native.Mathlib.Omega.{arith}
use Rattle.mixing.proofs.Scaling.{begin, more, end}
use Rattle.mixing.proofs.scale.Goals as goal

pub loop-x-init : goal.loop-x-init
loop-x-init c = begin _ _

pub loop-x-preserved : goal.loop-x-preserved
loop-x-preserved c = more c.loop-x.invariant (omega arith)

pub returns : goal.returns
returns c = end c.loop-x.invariant (omega arith)
