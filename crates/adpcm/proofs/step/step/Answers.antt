-- `adpcm::step` meets its contract. Each operand is within 2^32, so that no sum comes near 2^63, and the machine's numbers are the integers. Assumes nothing.
use mathlib.Core.Path.{◌≡◌, ap, ◌∙◌}
use Prim.Native.Nat.{◌+◌, ◌≤◌, ◌^◌}
use native.Mathlib.Omega.{arith}
use lib.IntN.{ℤ, pos, ◌+ℤ◌, ◌*ℤ◌}
use lib.Signed.{mag, shr_z, mag_shr}
use mir.Syntax.{w16, w64}
use mir.Val.{SFits, to_z, of_z}
use mir.ValLaws.{sfits_le}
use mir.Facts.{to_z-of_z}
use Rattle.adpcm.specs.Step.{step_of, signed4, clamp_z, step_fits}
use Rattle.adpcm.proofs.Ints.{mag_add, mul16, scaled_le, fits64, back, clamped}
use Rattle.adpcm.proofs.step.step.Goals as goal
use Rattle.adpcm.proofs.step.step.Goals.{After-from-2, After-from-4}

-- the first product
module _ (c : After-from-2) where
  abbrev y : ℤ
  y = c.args.c *ℤ c.args.h0

  c_is : to_z w64 (of_z w64 c.from.result) ≡ c.args.c
  c_is = back w64 c.from.result c.from.type_inv ∙ c.from.ensures ∙ to_z-of_z c.ranges.c

  h0_is : to_z w64 (of_z w64 c.from-2.result) ≡ c.args.h0
  h0_is = back w64 c.from-2.result c.from-2.type_inv ∙ c.from-2.ensures ∙ to_z-of_z c.ranges.h0

  y_le : mag y ≤ 2 ^ 30
  y_le = mul16 c.ranges.c c.ranges.h0

  y_fits : SFits w64 y
  y_fits = fits64 (omega (arith, y_le))

  y_is : to_z w64 (of_z w64 (to_z w64 (of_z w64 c.from.result) *ℤ to_z w64 (of_z w64 c.from-2.result))) ≡ y
  y_is = rw (c_is, h0_is) (to_z-of_z y_fits)

-- the second product, and the sums
module _ (c : After-from-4) where
  abbrev p : After-from-2
  p = c.before.before

  abbrev x : ℤ
  x = c.scaled-x.result

  abbrev z : ℤ
  z = c.args.d *ℤ c.args.h1

  d_is : to_z w64 (of_z w64 c.from-3.result) ≡ c.args.d
  d_is = back w64 c.from-3.result c.from-3.type_inv ∙ c.from-3.ensures ∙ to_z-of_z c.ranges.d

  h1_is : to_z w64 (of_z w64 c.from-4.result) ≡ c.args.h1
  h1_is = back w64 c.from-4.result c.from-4.type_inv ∙ c.from-4.ensures ∙ to_z-of_z c.ranges.h1

  z_le : mag z ≤ 2 ^ 30
  z_le = mul16 c.ranges.d c.ranges.h1

  z_fits : SFits w64 z
  z_fits = fits64 (omega (arith, z_le))

  z_is : to_z w64 (of_z w64 (to_z w64 (of_z w64 c.from-3.result) *ℤ to_z w64 (of_z w64 c.from-4.result))) ≡ z
  z_is = rw (d_is, h1_is) (to_z-of_z z_fits)

  x_is : to_z w64 (of_z w64 x) ≡ x
  x_is = back w64 x c.scaled-x.type_inv

  -- what the call gave
  ex : x ≡ signed4 c.args.v *ℤ pos (2 ^ (11 + c.args.s))
  ex = c.scaled-x.ensures

  x_le : mag x ≤ 2 ^ 32
  x_le = rw ex (scaled_le c.args.v c.args.s (omega arith) (omega arith))

  s1 : SFits w64 (x +ℤ y p)
  s1 = fits64 (omega (arith, mag_add x (y p), x_le, y_le p))

  s2 : SFits w64 (x +ℤ y p +ℤ z)
  s2 = fits64 (omega (arith, mag_add (x +ℤ y p) z, mag_add x (y p), x_le, y_le p, z_le))

  s3 : SFits w64 (x +ℤ y p +ℤ z +ℤ pos 1024)
  s3 = fits64 (omega (arith, mag_add (x +ℤ y p +ℤ z) (pos 1024), mag_add (x +ℤ y p) z, mag_add x (y p), x_le, y_le p, z_le))

  s4 : SFits w64 (shr_z (x +ℤ y p +ℤ z +ℤ pos 1024) 2048)
  s4 = sfits_le (mag_shr (x +ℤ y p +ℤ z +ℤ pos 1024) 2048) s3

pub overflow_mul-y : goal.overflow_mul-y
overflow_mul-y c = rw (c_is c, h0_is c) (y_fits c)

pub overflow_mul-z : goal.overflow_mul-z
overflow_mul-z c = rw (d_is c, h1_is c) (z_fits c)

pub overflow_add-t : goal.overflow_add-t
overflow_add-t c = rw (x_is c, y_is (p c)) (s1 c)

pub overflow_add-t-2 : goal.overflow_add-t-2
overflow_add-t-2 c = rw (x_is c, y_is (p c), to_z-of_z (s1 c), z_is c) (s2 c)

pub overflow_add-t-3 : goal.overflow_add-t-3
overflow_add-t-3 c = rw (x_is c, y_is (p c), to_z-of_z (s1 c), z_is c, to_z-of_z (s2 c)) (s3 c)

pub returns : goal.returns
unfolding step_of
returns c =
    let b = c.before in
    let a = c.args in
    let e : c.clamp.result ≡ step_of a.v a.s a.c a.d a.h0 a.h1 =
    c.clamp.ensures.value
    ∙ rw (x_is b, y_is (p b), to_z-of_z (s1 b), z_is b, to_z-of_z (s2 b), to_z-of_z (s3 b), to_z-of_z (s4 b)) (clamped (shr_z (x b +ℤ y (p b) +ℤ z b +ℤ pos 1024) 2048))
    ∙ ap (λ (n : ℤ). clamp_z (shr_z (n +ℤ y (p b) +ℤ z b +ℤ pos 1024) 2048)) (ex b) in
    rw (back w64 c.clamp.result c.clamp.type_inv) (ap (λ (n : ℤ). to_z w16 (of_z w16 n)) e ∙ to_z-of_z (step_fits a.v a.s a.c a.d a.h0 a.h1))
