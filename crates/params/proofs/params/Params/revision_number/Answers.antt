-- `Params::revision_number` meets its contract: what 48 added to goes round to the top byte. Assumes nothing.
use Rattle.params.specs.Sizes.{revision_of}
use Rattle.std.proofs.Common.{rules}
use Rattle.params.proofs.params.Params.revision_number.Goals as goal

pub returns : goal.returns
unfolding revision_of
returns c = search rules
