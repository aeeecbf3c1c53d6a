-- `sending::route` meets its contract: it goes by its mix, or by its splitter. Assumes nothing.
use native.Mathlib.Omega.{arith}
use Rattle.sending.specs.Routes.{route_by_splitter, route_to_mix}
use Rattle.sending.proofs.route.Goals as goal

pub returns-then-mix_id-eq2147483647 : goal.returns-then-mix_id-eq2147483647
returns-then-mix_id-eq2147483647 c =
    route_by_splitter _ _ _ _ _ _ c.requires.apart c.requires.fits _ _ _ _ _ _ _ _ _ _ c.if-mix_id-eq2147483647.true c.by_splitter.ensures

pub returns-else-mix_id-eq2147483647 : goal.returns-else-mix_id-eq2147483647
returns-else-mix_id-eq2147483647 c =
    route_to_mix _ _ _ _ _ _ c.requires.apart c.requires.fits _ _ _ _ _ _ _ _ _ _ c.requires.ids (omega arith) c.if-mix_id-eq2147483647.false c.to_mix.ensures
