-- `Params::render_info_size` meets its contract: by the revision. Assumes nothing.
use Rattle.std.proofs.Common.{sym, arith}
use Rattle.params.specs.Laws.{info_some, info_none}
use Rattle.params.proofs.params.Params.render_info_size.Goals as goal

pub returns-then-revision_number-ge5 : goal.returns-then-revision_number-ge5
returns-then-revision_number-ge5 c = sym (info_some _ (omega arith))

pub returns-else-revision_number-ge5 : goal.returns-else-revision_number-ge5
returns-else-revision_number-ge5 c = sym (info_none _ (omega arith))
