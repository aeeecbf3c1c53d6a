-- `resample::at_most_one` meets its contract: a NaN is not at most 1, and gives 1. Assumes nothing.
use lib.Ieee.{of_bits}
use Rattle.resample.specs.Near.{min_stays, min_one}
use Rattle.resample.proofs.at_most_one.Goals as goal

pub returns-then-x : goal.returns-then-x
unfolding of_bits
returns-then-x c = min_stays _ c.if-x.true

pub returns-else-x : goal.returns-else-x
unfolding of_bits
returns-else-x c = min_one _ c.if-x.false
