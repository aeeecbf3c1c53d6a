-- `floats::clamp` meets its contract: the code makes the definition's two tests. Assumes nothing.
use Rattle.floats.specs.Defs.{clamp_of}
use Rattle.floats.proofs.clamp.Goals as goal

pub returns-then-x-low : goal.returns-then-x-low
unfolding clamp_of
returns-then-x-low c = simp c.if-x-low.true

pub returns-then-x-high : goal.returns-then-x-high
unfolding clamp_of
returns-then-x-high c = simp (c.if-x-low.false, c.if-x-high.true)

pub returns-else-x-high : goal.returns-else-x-high
unfolding clamp_of
returns-else-x-high c = simp (c.if-x-low.false, c.if-x-high.false)
