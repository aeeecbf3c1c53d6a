-- `rows::copy_in` meets its contract: `Copying` holds at each turn. Assumes nothing.
use mathlib.Core.Path.{refl}
use native.Mathlib.Omega.{arith}
use Rattle.rows.proofs.Copying.{begin, more, end_in}
use Rattle.rows.proofs.copy_in.Goals as goal

pub loop-k-init : goal.loop-k-init
loop-k-init g c = begin _ _ _ 0 _ (omega arith)

pub loop-k-preserved : goal.loop-k-preserved
loop-k-preserved g c =
    more c.loop-k.invariant _ _ refl (omega arith) c.index-row-k.is (omega arith) (omega arith) (omega arith)

pub returns : goal.returns
returns g c = end_in c.loop-k.invariant refl refl (omega arith)
