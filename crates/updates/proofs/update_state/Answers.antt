-- `updates::update_state` meets its contract: by whether the input has a byte. Assumes nothing.
use mathlib.Core.Path.{◌∙◌}
use Rattle.state.specs.State.{State}
use Rattle.slices.specs.Slices.{held}
use Rattle.updates.proofs.Empty.{updated_none, updated_some}
use Rattle.updates.proofs.update_state.Goals as goal
use Rattle.updates.proofs.update_state.Goals.{Start}

-- the state that the call was given
abbrev given : Start → State
given c = held c.args.s.now

pub returns-then-not-is_empty-clause-after : goal.returns-then-not-is_empty-clause-after
returns-then-not-is_empty-clause-after c =
    c.change_state.ensures.after
    ∙ updated_some c.args.p c.args.input.now (given (goal.at.returns-then-not-is_empty-clause-after c).Start) c.is_empty.ensures
    c.if-not-is_empty.true

pub returns-else-not-is_empty-clause-after : goal.returns-else-not-is_empty-clause-after
returns-else-not-is_empty-clause-after c =
    updated_none c.args.p c.args.input.now (given (goal.at.returns-else-not-is_empty-clause-after c).Start) c.is_empty.ensures
    c.if-not-is_empty.false
