-- `Params::load` meets its contract: each field is its word. Assumes nothing.
use Rattle.params.specs.Params.{params_of}
use Rattle.std.proofs.Common.{rules}
use Rattle.params.proofs.params.Params.load.Goals as goal

pub returns : goal.returns
unfolding params_of
returns c = search rules
