-- `resample::place` meets its contract: the same operations in the same order. Assumes nothing.
use Rattle.resample.specs.Defs.{pos_at}
use Rattle.resample.proofs.place.Goals as goal

pub returns : goal.returns
unfolding pos_at
returns c = cc
