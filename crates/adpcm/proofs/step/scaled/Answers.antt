-- `adpcm::scaled` meets its contract: the power is at most 2^26, and the product is far below 2^63. Assumes nothing.
use mathlib.Core.Path.{◌≡◌, ◌∙◌}
use Prim.Native.Nat.{◌+◌, ◌*◌, ◌%◌, ◌^◌}
use native.Mathlib.Omega.{arith}
use lib.IntN.{pos, ◌*ℤ◌}
use mir.Syntax.{w64}
use mir.Val.{SFits, to_z, of_z}
use mir.Facts.{to_z_pos, to_z-of_z}
use Rattle.adpcm.specs.Step.{signed4}
use Rattle.adpcm.proofs.Ints.{shl_one, pow_le, scaled_le, fits64, back}
use Rattle.adpcm.proofs.step.scaled.Goals as goal
use Rattle.adpcm.proofs.step.scaled.Goals.{After-signed}

module _ (c : After-signed) where
  whole : SFits w64 (signed4 c.args.v *ℤ pos (2 ^ (11 + c.args.s)))
  whole = fits64 (omega (arith, scaled_le c.args.v c.args.s (omega arith) (omega arith)))

  power : to_z w64 (1 * 2 ^ (11 + c.args.s) % 2 ^ 64) ≡ pos (2 ^ (11 + c.args.s))
  power = let s = c.args.s in
      rw (shl_one s (omega arith)) (to_z_pos w64 (omega (arith, pow_le s (omega arith))))

  nibble : to_z w64 (of_z w64 c.signed.result) ≡ signed4 c.args.v
  nibble = back w64 c.signed.result c.signed.type_inv ∙ c.signed.ensures

pub overflow_cast-result : goal.overflow_cast-result
overflow_cast-result c =
    let s = c.args.s in
    rw (shl_one s (omega arith)) (fits64 (omega (arith, pow_le s (omega arith))))

pub overflow_mul-result : goal.overflow_mul-result
overflow_mul-result c = rw (nibble c, power c) (whole c)

pub returns : goal.returns
returns c = rw (nibble c, power c) (to_z-of_z (whole c))
