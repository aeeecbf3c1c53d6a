-- `mixes::mix_id` meets its contract. Assumes nothing.
use mathlib.Core.Path.{ap, ◌∙◌}
use Rattle.fields.specs.Fields.{positive}
use Rattle.desk_mixes.specs.Mixes.{mix_id}
use Rattle.desk_mixes.proofs.mixes.mix_id.Goals as goal

pub returns-then-dirty : goal.returns-then-dirty
unfolding mix_id
returns-then-dirty c = simp c.if-dirty.true (c.positive.ensures ∙ ap positive c.u32_at.ensures)

pub returns-else-dirty : goal.returns-else-dirty
unfolding mix_id
returns-else-dirty c = simp c.if-dirty.false
