-- `resample::fourth` meets its contract: the code is the definition. Assumes nothing.
use Rattle.std.proofs.Common.{refl}
use lib.Ieee.{of_bits}
use Rattle.resample.specs.Defs.{fourth}
use Rattle.resample.proofs.fourth.Goals as goal

pub returns : goal.returns
unfolding fourth of_bits
returns c = refl
