-- `desk_updates::resources` meets its contract: the rows that are lent come back in their place. Assumes nothing.
use native.Mathlib.Omega.{arith}
use Rattle.desk_updates.specs.Laws.{resources_back}
use Rattle.desk_updates.proofs.resources.Goals as goal

pub returns : goal.returns
returns c =
    resources_back c.args.d.now c.args.n c.args.c c.args.floats.now (omega arith) c.update_channel_resources.ensures
