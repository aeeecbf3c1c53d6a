-- `session::memory` meets its contract: as long as its count says. Assumes nothing.
use mathlib.Core.Path.{ap, ◌∙◌}
use Rattle.fields.specs.Fields.{section_of}
use Rattle.session.proofs.input.memory.Goals as goal

pub returns : goal.returns
returns c = c.section.ensures ∙ ap (section_of _ 0x3c) c.memory_size-n.ensures
