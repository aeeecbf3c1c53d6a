-- `cabi::decode::coefficient_at` meets its contract. Assumes nothing.
use mathlib.Core.Path.{sym}
use lib.IntN.{pos}
use lib.ListN.{get_or-eq_default}
use Rattle.cabi.proofs.decode.coefficient_at.Goals as goal

pub returns-then-coefficients-k : goal.returns-then-coefficients-k
returns-then-coefficients-k c = sym (get_or-eq_default c.args.coefficients.now (pos 0) c.if-coefficients-k.true)
