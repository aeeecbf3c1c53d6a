-- `splitters::destinations::read_destination` meets its contract. Assumes nothing.
use mathlib.Core.Path.{◌∙◌}
use native.Mathlib.Omega.{arith}
use Rattle.splitters.proofs.Stores.{taken, passed}
use Rattle.splitters.proofs.destinations.read_destination.Goals as goal

pub returns-then-id-nd : goal.returns-then-id-nd
returns-then-id-nd c =
    let e = taken _ _ _ _ _ _ c.u32_at-id.ensures c.if-id-nd.true in
    (c.store_destination.ensures.0 ∙ e.0, c.store_destination.ensures.1 ∙ e.1)

pub returns-else-id-nd : goal.returns-else-id-nd
returns-else-id-nd c = passed _ _ _ _ _ _ c.u32_at-id.ensures (omega arith)
