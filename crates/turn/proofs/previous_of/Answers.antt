-- `turn::previous_of` meets its contract: each way out is a case of the test. Assumes nothing.
use Rattle.std.proofs.Common.{sym, ◌∙◌}
use Rattle.turn.specs.Turn.{previous_of}
use Rattle.turn.proofs.previous_of.Goals as goal

pub returns-then-has_destination : goal.returns-then-has_destination
unfolding previous_of
returns-then-has_destination c = rw (sym c.has_destination.ensures ∙ c.if-has_destination.true)

pub returns-else-has_destination : goal.returns-else-has_destination
unfolding previous_of
returns-else-has_destination c = rw (sym c.has_destination.ensures ∙ c.if-has_destination.false)
