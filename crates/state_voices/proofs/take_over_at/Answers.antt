-- `state_voices::take_over_at` meets its contract: the resources that are lent come back in their place. Assumes nothing.
use native.Mathlib.Omega.{arith}
use Prim.Native.Nat.{◌*◌}
use Rattle.state_voices.specs.Made.{taken_back}
use Rattle.state_voices.proofs.take_over_at.Goals as goal

pub returns : goal.returns
returns c =
    taken_back c.requires.ids c.args.channels (c.args.n * 4) c.args.floats.now (omega arith) (omega arith) c.take_over.ensures
