-- `sending::send` meets its contract: it lends the parts of the state that the sends go by, and sends what the ramp left. Assumes nothing.
use Rattle.sending.specs.InState.{mixes_whole_lem, lists_whole_lem, routed_is}
use Rattle.sending.specs.Routes.{route_ramped}
use Rattle.sending.proofs.send.Goals as goal

pub invariant_of-desk : goal.invariant_of-desk
invariant_of-desk c = record { whole = mixes_whole_lem c.places_of-at.ensures.1 _ c.requires.mixes_1 }

pub invariant_of-desk-2 : goal.invariant_of-desk-2
invariant_of-desk-2 c = record { whole = lists_whole_lem c.places_of-at.ensures.1 _ c.requires.mixes_2 }

pub returns : goal.returns
returns c =
    let both = routed_is c.places_of-at.ensures.1 _ _ _ _ _ _ _ _ _ _ _ (route_ramped _ _ _ _ _ _ _ _ _ _ _ _ _ _ c.ramp_rows.ensures c.route.ensures) in
    record { buffers_after = both.0; floats_after = both.1 }
