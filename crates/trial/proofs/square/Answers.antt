-- `trial::square` meets its contract. Assumes nothing.
use mathlib.Core.Path.{◌≡◌}
use Prim.Native.Nat.{◌*◌, ◌≤◌}
use native.Mathlib.Nat.{mul-le-mul}
use native.Mathlib.Omega.{arith}
use Rattle.trial.proofs.square.Goals as goal
use Rattle.trial.proofs.square.Goals.{After-from-d}

square_is : (c : After-from-d) → c.from-d.result * c.from-d.result ≡ c.args.difference * c.args.difference
square_is c = λ i. c.from-d.ensures i * c.from-d.ensures i

small : (c : After-from-d) → c.args.difference * c.args.difference ≤ 65535 * 65535
small c = mul-le-mul {n₂ = 65535} {m₂ = 65535} (omega arith) (omega arith)

pub overflow_mul-result : goal.overflow_mul-result
overflow_mul-result c = record { fits = omega (arith, square_is c, small c) }

pub returns : goal.returns
returns c = (square_is c, omega (arith, square_is c, small c))
