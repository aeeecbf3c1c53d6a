-- "However late": demand 3's own condition does not hold of the two sessions, so it asks agreement where it has to. Assumes nothing.
use Rattle.std.specs.Prelude.{refl}
use Rattle.secrecy.specs.Demand.{Condition}
use Rattle.secrecy.proofs.Secrecy.{demand3}
use Rattle.secrecy.specs.Computing.{computing}
use Rattle.secrecy.specs.Inputs.{params, revision, slices, start_for}
use Rattle.secrecy.specs.Inputs.{desk, updating_all, rendering, pcm}
use Rattle.secrecy_examples.specs.Late.{one, other, st, frames_differ}

-- demand 3's own does not hold
pub unfair : Condition (params (revision 2)) st one other 4 → ⊥
unfolding computing start_for desk updating_all rendering pcm
unfair condition = frames_differ ((demand3 (params (revision 2)) slices slices refl refl one other refl).frames 4 condition)
