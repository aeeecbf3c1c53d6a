-- `fields::u32_at` meets its contract: the library's number of the bytes is `le`. Assumes nothing.
use native.Mathlib.Omega.{arith}
use Rattle.fields.specs.Fields.{le}
use Rattle.fields.proofs.u32_at.Goals as goal

pub returns : goal.returns
unfolding le
returns c = omega arith
