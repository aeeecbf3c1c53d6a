-- `resample::needed` meets its contract: it cuts the place as the definition does. Assumes nothing.
use Rattle.resample.specs.Defs.{needed_of}
use Rattle.resample.proofs.needed.Goals as goal

pub returns : goal.returns
unfolding needed_of
returns c = cc
