-- `mixes::put_volumes` meets its contract. Assumes nothing.
use Rattle.desk.specs.Records.{float_at}
use Rattle.desk_mixes.proofs.MixRow.{volumes}
use Rattle.desk_mixes.proofs.mixes.put_volumes.Goals as goal

pub returns : goal.returns
unfolding float_at
returns c =
    volumes c.args.p.now c.args.at c.args.floats.now c.requires c.f32_at.ensures c.put_floats.ensures
