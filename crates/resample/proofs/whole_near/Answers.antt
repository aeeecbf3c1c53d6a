-- `resample::whole_near` meets its contract: near, near + 1 and near + 2 are floats, and the place lies between two of them. Assumes nothing.
use Rattle.std.proofs.Common.{ℕ, ◌+◌, ◌^◌, ◌<◌, false, pos, arith, le→leb}
use lib.Ieee.{Float, binary32, in_float, of_int, of_bits, add}
use lib.Ieee.Exact.{HasValue}
use Rattle.floats.specs.Defs.{one}
use Rattle.floats.specs.Whole.{int_value}
use Rattle.resample.specs.Near.{next_value, from_le, from_not_lt, below_lt, whole_is}
use Rattle.resample.proofs.whole_near.Goals as goal

-- what the tests compare with
module _ (n : ℕ) (l : n < 0xffffff) where
  abbrev low : Float
  low = of_int binary32 (pos n)

  low_is : HasValue low false n 1
  low_is = int_value n (omega arith)

  high_is : HasValue (add binary32 low one) false (n + 1) 1
  high_is = next_value low n (omega arith) low_is

  top_is : HasValue (add binary32 (add binary32 low one) one) false (n + 1 + 1) 1
  top_is = next_value (add binary32 low one) (n + 1) (omega arith) high_is

pub int_to_float-low : goal.int_to_float-low
unfolding in_float
int_to_float-low c = le→leb c.args.near (2 ^ 24) (omega arith)

pub returns-then-x-high : goal.returns-then-x-high
unfolding of_bits
returns-then-x-high c =
    let n = c.args.near in
    let l : n < 0xffffff = omega arith in
    whole_is _ n (omega arith) (from_le _ _ n (low_is n l) c.if-low-x.true) (below_lt _ _ (n + 1) (high_is n l) c.if-x-high.true)

pub returns-then-x-high-2 : goal.returns-then-x-high-2
unfolding of_bits
returns-then-x-high-2 c =
    let n = c.args.near in
    let l : n < 0xffffff = omega arith in
    whole_is _ (n + 1) (omega arith)
    (from_not_lt _ _ n (n + 1) (high_is n l) (from_le _ _ n (low_is n l) c.if-low-x.true) c.if-x-high.false)
    (below_lt _ _ (n + 1 + 1) (top_is n l) c.if-x-high-2.true)
