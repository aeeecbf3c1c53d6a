-- `resample::interpolate` meets its contract: the same operations in the same order. Assumes nothing.
use Rattle.std.proofs.Common.{refl}
use lib.Ieee.{of_bits}
use Rattle.resample.specs.Defs.{cubic}
use Rattle.resample.proofs.interpolate.Goals as goal

pub returns : goal.returns
unfolding cubic of_bits
returns c = refl
