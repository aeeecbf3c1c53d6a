-- `nearest::prediction` meets its contract: each product is within 2^30, so that the sum is positive and far below 2^63. Assumes nothing.
use mathlib.Core.Path.{◌≡◌, refl, ◌∙◌}
use Prim.Native.Nat.{ℕ, ◌+◌, ◌≤◌, ◌<◌, ◌^◌}
use native.Mathlib.Omega.{arith}
use lib.IntN.{ℤ, pos, ◌+ℤ◌, ◌*ℤ◌}
use lib.Signed.{mag}
use mir.Syntax.{w64}
use mir.Val.{SFits, to_z, of_z}
use mir.Facts.{to_z-of_z}
use Rattle.adpcm.proofs.Ints.{mag_add, mul16, back}
use Rattle.nearest.specs.Levels.{prediction_of}
use Rattle.nearest.proofs.Levels.{counted_from, sum_is, sum_below}
use Rattle.nearest.proofs.prediction.Goals as goal
use Rattle.nearest.proofs.prediction.Goals.{After-from-2, After-from-4}

-- the first product
module _ (c : After-from-2) where
  abbrev a : ℤ
  a = c.args.c *ℤ c.args.h0

  c_is : to_z w64 (of_z w64 c.from.result) ≡ c.args.c
  c_is = back w64 c.from.result c.from.type_inv ∙ c.from.ensures ∙ to_z-of_z c.ranges.c

  h0_is : to_z w64 (of_z w64 c.from-2.result) ≡ c.args.h0
  h0_is = back w64 c.from-2.result c.from-2.type_inv ∙ c.from-2.ensures ∙ to_z-of_z c.ranges.h0

  a_le : mag a ≤ 2 ^ 30
  a_le = mul16 c.ranges.c c.ranges.h0

  a_fits : SFits w64 a
  a_fits = record { sfits = omega (arith, a_le) }

  a_is : to_z w64 (of_z w64 (to_z w64 (of_z w64 c.from.result) *ℤ to_z w64 (of_z w64 c.from-2.result))) ≡ a
  a_is = rw (c_is, h0_is) (to_z-of_z a_fits)

-- the second product, and the sums
module _ (c : After-from-4) where
  abbrev p : After-from-2
  p = c.before.before

  abbrev b : ℤ
  b = c.args.d *ℤ c.args.h1

  d_is : to_z w64 (of_z w64 c.from-3.result) ≡ c.args.d
  d_is = back w64 c.from-3.result c.from-3.type_inv ∙ c.from-3.ensures ∙ to_z-of_z c.ranges.d

  h1_is : to_z w64 (of_z w64 c.from-4.result) ≡ c.args.h1
  h1_is = back w64 c.from-4.result c.from-4.type_inv ∙ c.from-4.ensures ∙ to_z-of_z c.ranges.h1

  b_le : mag b ≤ 2 ^ 30
  b_le = mul16 c.ranges.d c.ranges.h1

  b_fits : SFits w64 b
  b_fits = record { sfits = omega (arith, b_le) }

  b_is : to_z w64 (of_z w64 (to_z w64 (of_z w64 c.from-3.result) *ℤ to_z w64 (of_z w64 c.from-4.result))) ≡ b
  b_is = rw (d_is, h1_is) (to_z-of_z b_fits)

  abbrev n : ℕ
  n = counted_from (2 ^ 31) (a p) + counted_from (2 ^ 31) b + 1024

  sum : a p +ℤ b +ℤ pos (2 ^ 32 + 1024) ≡ pos n
  sum = sum_is (a p) b (omega (arith, a_le p)) (omega (arith, b_le))

  small : n < 2 ^ 33
  small = sum_below (a p) b (a_le p) b_le

  s1 : SFits w64 (a p +ℤ b)
  s1 = record { sfits = omega (arith, mag_add (a p) b, a_le p, b_le) }

  s2 : SFits w64 (pos n)
  s2 = record { sfits = omega (arith, small) }

pub overflow_mul-a : goal.overflow_mul-a
overflow_mul-a c = rw (c_is c, h0_is c) (a_fits c)

pub overflow_mul-b : goal.overflow_mul-b
overflow_mul-b c = rw (d_is c, h1_is c) (b_fits c)

pub overflow_add-z : goal.overflow_add-z
overflow_add-z c = rw (a_is (p c), b_is c) (s1 c)

pub overflow_add-z-2 : goal.overflow_add-z-2
overflow_add-z-2 c = rw (a_is (p c), b_is c, to_z-of_z (s1 c), sum c) (s2 c)

pub overflow_cast-result : goal.overflow_cast-result
overflow_cast-result c = rw (a_is (p c), b_is c, to_z-of_z (s1 c), sum c, to_z-of_z (s2 c)) (tt, record { fits = omega (arith, small c) })

pub overflow_cast-result-2 : goal.overflow_cast-result-2
overflow_cast-result-2 c = rw (a_is (p c), b_is c, to_z-of_z (s1 c), sum c, to_z-of_z (s2 c)) (record { fits = omega (arith, small c) })

pub returns : goal.returns
unfolding prediction_of
returns c =
    rw (a_is (p c), b_is c, to_z-of_z (s1 c), sum c, to_z-of_z (s2 c)) (refl, omega (arith, small c))
