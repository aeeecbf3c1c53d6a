-- `fields::flag_at` meets its contract. Assumes nothing.
use Rattle.fields.specs.Fields.{flag_at}
use Rattle.fields.proofs.flag_at.Goals as goal

pub returns : goal.returns
unfolding flag_at
returns c = cc
