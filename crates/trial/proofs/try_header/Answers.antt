-- `trial::try_header` meets its contract. Assumes nothing.
use mathlib.Core.Path.{◌≡◌, ap, ◌∙◌}
use mathlib.Core.List.{List}
use Prim.Native.Nat.{ℕ, min}
use lib.IntN.{ℤ}
use native.Mathlib.Omega.{arith}
use mir.Syntax.{w16}
use mir.Val.{to_z, of_z}
use mir.Facts.{to_z-of_z}
use Rattle.adpcm.proofs.Ints.{back}
use Rattle.trial.specs.Trial.{pair_first, pair_second, sum_of, error_of}
use Rattle.trial.proofs.try_header.Goals as goal
use Rattle.trial.proofs.try_header.Goals.{After-try_pair}

module _ (c : After-try_pair) where
  abbrev k : List ℤ
  k = c.args.coefficients.now

  abbrev b : ℕ
  b = c.args.b

  -- the pair and the histories as they are passed, and as the contract has them
  first_is : to_z w16 (of_z w16 c.pair-c.result.0) ≡ pair_first k b
  first_is = back w16 c.pair-c.result.0 (omega arith) ∙ c.pair-c.ensures.first ∙ ap (pair_first k) c.from.ensures

  second_is : to_z w16 (of_z w16 c.pair-c.result.1) ≡ pair_second k b
  second_is = back w16 c.pair-c.result.1 (omega arith) ∙ c.pair-c.ensures.second ∙ ap (pair_second k) c.from.ensures

  abbrev ts : List ℤ
  ts = c.args.samples.now

  sum_is : sum_of c.from-2.result (to_z w16 (of_z w16 c.pair-c.result.0)) (to_z w16 (of_z w16 c.pair-c.result.1)) ts
      (to_z w16 (of_z w16 c.args.h0)) (to_z w16 (of_z w16 c.args.h1))
      ≡ error_of k ts c.args.h0 c.args.h1 b
  unfolding error_of
  sum_is = λ i. sum_of (c.from-2.ensures i) (first_is i) (second_is i) ts (to_z-of_z c.ranges.h0 i) (to_z-of_z c.ranges.h1 i)

pub returns : goal.returns
returns c = (c.try_pair.ensures.0 ∙ ap (min c.args.limit) (sum_is c), c.try_pair.ensures.1)
