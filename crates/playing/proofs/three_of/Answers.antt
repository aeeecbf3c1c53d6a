-- `playing::three_of` meets its contract: the three are copied out. Assumes nothing.
use native.Mathlib.Omega.{arith}
use Rattle.playing.proofs.three_of.Goals as goal

pub copy_out-requires : goal.copy_out-requires
copy_out-requires c =
    omega (arith, c.well_formed.0.1.1.0.1.0.1)
