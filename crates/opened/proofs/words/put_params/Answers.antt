-- `put_params` meets its contract: the row is copied in. Assumes nothing.
use Rattle.params.specs.Params.{row_of}
use Rattle.opened.proofs.words.put_params.Goals as goal

pub returns : goal.returns
unfolding row_of
returns c = c.copy_in.ensures
