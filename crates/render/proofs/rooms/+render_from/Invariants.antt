-- The last room is always enough: the rooms that are left fall.
use Rattle.std.proofs.Common.{ℕ, ◌-◌}
use Rattle.render.proofs.rooms.+render_from.Given as goal

abbrev pub decreases-render_from : goal.decreases-render_from
decreases-render_from l = 3 - l.k
