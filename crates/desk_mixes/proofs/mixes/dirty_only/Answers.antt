-- `mixes::dirty_only` meets its contract. Assumes nothing.
use mathlib.Core.Path.{refl}
use Rattle.desk_mixes.specs.Mixes.{dirty_only}
use Rattle.desk_mixes.proofs.mixes.dirty_only.Goals as goal

pub returns : goal.returns
unfolding dirty_only
returns c = refl
