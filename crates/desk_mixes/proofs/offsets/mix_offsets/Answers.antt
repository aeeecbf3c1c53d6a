-- `offsets::mix_offsets` meets its contract: `Summing` holds at each turn. Assumes nothing.
use native.Mathlib.Omega.{arith}
use Rattle.desk_mixes.proofs.Summing.{begin, below, more, end}
use Rattle.desk_mixes.proofs.offsets.mix_offsets.Goals as goal

pub loop-k-init : goal.loop-k-init
loop-k-init c = begin _ _ c.requires.2

pub overflow_add-offset-in-loop-k : goal.overflow_add-offset-in-loop-k
overflow_add-offset-in-loop-k c = omega (arith, below c.loop-k.invariant (omega arith))

pub loop-k-preserved : goal.loop-k-preserved
loop-k-preserved c = more c.loop-k.invariant (omega arith)

pub returns : goal.returns
returns c = end c.loop-k.invariant (omega arith)
