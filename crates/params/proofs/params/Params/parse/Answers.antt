-- `Params::parse` meets its contract: each field is what its reader gives. Assumes nothing.
use Rattle.params.specs.Params.{parse_of}
use Rattle.std.proofs.Common.{rules}
use Rattle.params.proofs.params.Params.parse.Goals as goal

pub returns : goal.returns
unfolding parse_of
returns c = search rules
