-- `nearest::offset_binary` meets its contract: the sum is the sample's number. Assumes nothing.
use mathlib.Core.Path.{◌≡◌, refl, ap, ◌∙◌}
use native.Mathlib.Omega.{arith}
use lib.IntN.{ℤ, pos, ◌+ℤ◌}
use mir.Syntax.{w64}
use mir.Val.{SFits, to_z, of_z}
use mir.Facts.{to_z-of_z}
use Rattle.adpcm.proofs.Ints.{back}
use Rattle.nearest.specs.Levels.{offset_binary}
use Rattle.nearest.proofs.Offsets.{offset_is, offset_le}
use Rattle.nearest.proofs.offset_binary.Goals as goal
use Rattle.nearest.proofs.offset_binary.Goals.{After-from}

sum_is : (c : After-from) → to_z w64 (of_z w64 c.from.result) +ℤ pos 32768 ≡ pos (offset_binary c.args.x)
sum_is c =
    ap (λ (z : ℤ). z +ℤ pos 32768) (back w64 c.from.result c.from.type_inv ∙ c.from.ensures ∙ to_z-of_z c.ranges.x) ∙ offset_is c.args.x c.ranges.x

sum_fits : (c : After-from) → SFits w64 (pos (offset_binary c.args.x))
sum_fits c = record { sfits = omega (arith, offset_le c.args.x c.ranges.x) }

pub overflow_add-result : goal.overflow_add-result
overflow_add-result c = rw (sum_is c) (sum_fits c)

pub overflow_cast-result : goal.overflow_cast-result
overflow_cast-result c = rw (sum_is c, to_z-of_z (sum_fits c)) (tt, omega (arith, offset_le c.args.x c.ranges.x))

pub returns : goal.returns
returns c = rw (sum_is c, to_z-of_z (sum_fits c)) (refl, offset_le c.args.x c.ranges.x)
