-- `mixes::mix_base` meets its contract. Assumes nothing.
use Rattle.desk_mixes.specs.Mixes.{mix_base}
use Rattle.desk_mixes.proofs.mixes.mix_base.Goals as goal

pub returns-then-dirty : goal.returns-then-dirty
unfolding mix_base
returns-then-dirty c = simp c.if-dirty.true

pub returns-else-dirty : goal.returns-else-dirty
unfolding mix_base
returns-else-dirty c = simp c.if-dirty.false
