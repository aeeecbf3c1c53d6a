-- `rows::copy_out` meets its contract: `Copying` holds at each turn. Assumes nothing.
use mathlib.Core.Path.{refl}
use native.Mathlib.Omega.{arith}
use Rattle.rows.proofs.Copying.{begin, more, end_out}
use Rattle.rows.proofs.copy_out.Goals as goal

pub loop-k-init : goal.loop-k-init
loop-k-init g c = begin _ 0 _ _ _ (omega arith)

pub loop-k-preserved : goal.loop-k-preserved
loop-k-preserved g c =
    more c.loop-k.invariant _ _ (omega arith) refl c.index-s-at.is (omega arith) (omega arith) (omega arith)

pub returns : goal.returns
returns g c = end_out c.loop-k.invariant refl refl (omega arith) (omega arith)
