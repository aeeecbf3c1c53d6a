-- Only row 0 can lack room: the rows that are left fall.
use Rattle.std.proofs.Common.{ℕ, ◌-◌}
use Rattle.voice_turn.proofs.+render_ready.Given as goal

abbrev pub decreases-render_ready : goal.decreases-render_ready
decreases-render_ready l = 1 - l.row
