-- `sound::zeros_from` meets its contract: zeros fill the whole of the part. Assumes nothing.
use Prim.Native.Nat.{◌-◌}
use lib.ListN.{length, replicate}
use Rattle.floats.specs.Defs.{zero32}
use Rattle.rows.specs.Lent.{rest_filled}
use Rattle.sound.proofs.pcm.zeros_from.Goals as goal

pub returns : goal.returns
returns c =
    rest_filled c.args.out.now c.args.at c.requires (replicate (length c.args.out.now - c.args.at) zero32) c.zeros.ensures
