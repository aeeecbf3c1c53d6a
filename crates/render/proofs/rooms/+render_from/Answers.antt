-- Each room holds the desks for which it is enough, and the last any that are allowed.
use Rattle.render.proofs.Fitting.{fits_at, fits_last, holds_first, holds_second, holds_third, holds_last}
use Rattle.render.proofs.rooms.+render_from.Goals as goal

pub render_in_room-requires-clause-room : goal.render_in_room-requires-clause-room
render_in_room-requires-clause-room t c = holds_first (fits_at c.in-0.is (c.enough.ensures.0 c.if-enough.true))

pub render_in_room-requires-in-1-clause-room : goal.render_in_room-requires-in-1-clause-room
render_in_room-requires-in-1-clause-room t c = holds_second (fits_at c.in-1.is (c.enough.ensures.0 c.if-enough.true))

pub render_in_room-requires-in-2-clause-room : goal.render_in_room-requires-in-2-clause-room
render_in_room-requires-in-2-clause-room t c = holds_third (fits_at c.in-2.is (c.enough.ensures.0 c.if-enough.true))

pub render_in_room-requires-in_default-clause-room : goal.render_in_room-requires-in_default-clause-room
render_in_room-requires-in_default-clause-room t c = holds_last (fits_last c.requires.0)
