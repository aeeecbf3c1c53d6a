-- `sink::to_unit` meets its contract: 1 / 32768 is the definition's factor. Assumes nothing.
use lib.Ieee.{of_bits, div, neg}
use Rattle.sink.specs.Sink.{to_unit}
use Rattle.sink.proofs.to_unit.Goals as goal

pub returns : goal.returns
unfolding to_unit of_bits div neg
returns c = c.clamp.ensures
