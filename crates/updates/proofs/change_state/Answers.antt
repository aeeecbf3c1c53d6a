-- `updates::change_state` meets its contract: resources and voices leave a desk that can be updated. Assumes nothing.
use mathlib.Core.Path.{sym, subst}
use Rattle.state.specs.State.{State}
use Rattle.slices.specs.Slices.{held}
use Rattle.updates.specs.Update.{Updatable}
use Rattle.updates.specs.Whole.{first_keep, update_done_lem}
use Rattle.updates.proofs.change_state.Goals as goal
use Rattle.updates.proofs.change_state.Goals.{Start}

-- the state that the call was given
abbrev given : Start → State
given c = held c.args.s.now

pub update_desk-requires : goal.update_desk-requires
update_desk-requires c =
    let kept = first_keep _ _ _ (given (goal.at.update_desk-requires c).Start) c.requires in
    record {
      near = c.read-sections.ensures.near;
      updatable = (subst (Updatable c.args.p) (sym c.update_first.ensures.after) kept).desk;
    }

pub returns-clause-after : goal.returns-clause-after
returns-clause-after c =
    update_done_lem c.args.p c.args.input.now (given (goal.at.returns-clause-after c).Start)
    c.read-sections.ensures.value c.update_first.ensures.after c.update_desk.ensures
