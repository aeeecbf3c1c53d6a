-- `open_floats` meets its contract: voices, resources and desk, one behind the other. Assumes nothing.
use lib.Ieee.{of_bits}
use Rattle.opened.specs.Written.{floats_written}
use Rattle.opened.proofs.gains.open_floats.Goals as goal

pub returns : goal.returns
unfolding of_bits
returns c =
    floats_written c.args.p c.args.floats.now c.requires.floats_len c.fill.ensures c.fill-2.ensures c.put_desk.ensures
