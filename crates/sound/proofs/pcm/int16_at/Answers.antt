-- `sound::int16_at` meets its contract: the number that two bytes are, which a float holds. Assumes nothing.
use mathlib.Core.Path.{ap, ◌∙◌}
use native.Mathlib.Omega.{arith}
use lib.Ieee.{binary32, of_int}
use mir.Facts.{to_z-of_z}
use mir.Val.{to_z}
use mir.Syntax.{w16}
use Rattle.sound.specs.Sound.{pcm_at}
use Rattle.sound.proofs.pcm.int16_at.Goals as goal

pub returns : goal.returns
unfolding pcm_at
returns c = ap (of_int binary32) (to_z-of_z {w = w16} (record { sfits = omega arith }) ∙ c.cast_signed.ensures ∙ ap (to_z w16) c.u16_at.ensures)
