-- `section::destination_at` meets its contract: what the record leaves, at the place behind it. Assumes nothing.
use mathlib.Core.Path.{refl}
use Prim.Native.Nat.{◌+◌}
use Rattle.splitters.specs.Destinations.{left, destination_step}
use Rattle.section.proofs.destination_at.Goals as goal

pub returns : goal.returns
unfolding destination_step
returns c =
    ((λ i. left (c.args.at + c.args.size) (c.read_destination.ensures.0 i) (c.read_destination.ensures.1 i)), refl)
