-- `session::parameters` meets its contract: the section is parsed. Assumes nothing.
use mathlib.Core.Path.{ap, ◌∙◌}
use Rattle.params.specs.Params.{parse_of}
use Rattle.session.proofs.input.parameters.Goals as goal

pub returns : goal.returns
returns c = c.parse.ensures ∙ ap parse_of c.section.ensures
