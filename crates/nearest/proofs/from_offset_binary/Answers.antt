-- `nearest::from_offset_binary` meets its contract. Assumes nothing.
use native.Mathlib.Omega.{arith}
use lib.IntN.{sub_ℕ}
use mir.Syntax.{w16, w32}
use mir.Val.{SFits}
use mir.Facts.{sfits_widen, to_z_pos, to_z-of_z}
use Rattle.nearest.proofs.Differences.{offset_fits}
use Rattle.nearest.proofs.from_offset_binary.Goals as goal
use Rattle.nearest.proofs.from_offset_binary.Goals.{Start}

module _ (c : Start) where
  fits16 : SFits w16 (sub_ℕ c.args.y 32768)
  fits16 = offset_fits c.args.y (omega arith)

  fits32 : SFits w32 (sub_ℕ c.args.y 32768)
  fits32 = sfits_widen tt fits16

pub overflow_sub-result : goal.overflow_sub-result
overflow_sub-result c = rw (to_z_pos w32 {n = c.args.y} (omega arith)) (fits32 c)

pub overflow_cast-result-2 : goal.overflow_cast-result-2
overflow_cast-result-2 c = rw (to_z_pos w32 {n = c.args.y} (omega arith), to_z-of_z (fits32 c)) (fits16 c)

pub returns : goal.returns
returns c = rw (to_z_pos w32 {n = c.args.y} (omega arith), to_z-of_z (fits32 c)) (to_z-of_z (fits16 c))
