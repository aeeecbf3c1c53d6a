-- `put_desk` meets its contract: each kind stands right behind the one before. Assumes nothing.
use lib.Ieee.{of_bits}
use Rattle.opened.specs.Written.{desk_floats_written}
use Rattle.opened.proofs.gains.put_desk.Goals as goal

pub returns : goal.returns
unfolding of_bits
returns c =
    desk_floats_written _ _ _ _ _ c.requires c.put_mixes.ensures c.fill.ensures c.fill-2.ensures
