-- `adpcm::signed` meets its contract: each arm is a case of the definition. Assumes nothing.
use mathlib.Core.Path.{◌≡◌, ◌∙◌}
use borrow.Author.Tests.{lt-ltb, le-ltb}
use native.Mathlib.Omega.{arith}
use lib.IntN.{pos, negsuc}
use mir.Syntax.{w64}
use mir.Val.{to_z, of_z}
use mir.Facts.{to_z-of_z}
use Rattle.adpcm.specs.Step.{signed4}
use Rattle.adpcm.proofs.Ints.{mag_add, fits64, back}
use Rattle.adpcm.proofs.step.signed.Goals as goal
use Rattle.adpcm.proofs.step.signed.Goals.{After-from-x}

whole : (c : After-from-x) → to_z w64 (of_z w64 c.from-x.result) ≡ pos c.args.v
whole c = back w64 c.from-x.result c.from-x.type_inv ∙ c.from-x.ensures

pub overflow_sub-result : goal.overflow_sub-result
overflow_sub-result c =
    rw (whole (goal.at.overflow_sub-result c).After-from-x) (fits64 (omega (arith, mag_add (pos c.args.v) (negsuc 15))))

pub returns-then-v-lt8 : goal.returns-then-v-lt8
unfolding signed4
returns-then-v-lt8 c = whole (goal.at.returns-then-v-lt8 c).After-from-x ∙ simp (lt-ltb _ _ c.if-v-lt8.true)

pub returns-else-v-lt8 : goal.returns-else-v-lt8
unfolding signed4
returns-else-v-lt8 c =
    to_z-of_z (overflow_sub-result c) ∙ rw (whole (goal.at.returns-else-v-lt8 c).After-from-x) (simp (le-ltb _ _ c.if-v-lt8.false))
