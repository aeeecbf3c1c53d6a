-- `put_mixes` meets its contract: its row is a new mix's. Assumes nothing.
use lib.Ieee.{of_bits}
use Rattle.opened.proofs.gains.put_mixes.Goals as goal

pub returns : goal.returns
unfolding of_bits
returns c = c.repeat.ensures
