-- `mixes::put_words` meets its contract. Assumes nothing.
use Rattle.desk_mixes.specs.Mixes.{mix_head}
use Rattle.desk_mixes.proofs.mixes.put_words.Goals as goal

pub returns : goal.returns
unfolding mix_head
returns c = cc
