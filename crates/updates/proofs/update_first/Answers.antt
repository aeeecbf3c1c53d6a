-- `updates::update_first` meets its contract: the resources first, then the voices. Assumes nothing.
use Rattle.slices.specs.Slices.{held}
use Rattle.updates.specs.Whole.{first_done}
use Rattle.updates.proofs.update_first.Goals as goal

pub returns-clause-after : goal.returns-clause-after
returns-clause-after c =
    first_done c.args.p c.args.sections c.args.input.now (held c.args.s.now)
    c.section-resources.ensures c.section-d.ensures c.revision_number.ensures c.resources.ensures c.update_voices.ensures
