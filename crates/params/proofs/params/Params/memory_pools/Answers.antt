-- `Params::memory_pools` meets its contract: allowed counts stay far below 2^32. Assumes nothing.
use Rattle.params.specs.Sizes.{pools_of}
use Rattle.std.proofs.Common.{rules}
use Rattle.params.proofs.params.Params.memory_pools.Goals as goal

pub returns : goal.returns
unfolding pools_of
returns c = search rules
