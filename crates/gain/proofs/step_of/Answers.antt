-- `gain::step_of` meets its contract: the same operations in the same order. Assumes nothing.
use Rattle.gain.specs.Gain.{step_of}
use Rattle.gain.proofs.step_of.Goals as goal

pub returns : goal.returns
unfolding step_of
returns c = rw c.nearest_u32_to_f32.ensures
