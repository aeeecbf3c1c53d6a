-- `cabi::answers::open_told` meets its contract. Assumes nothing.
use Rattle.std.proofs.Common.{ap, sym, ◌∙◌}
use Rattle.renderer.specs.Answers.{open_number}
use Rattle.cabi.proofs.answers.open_told.Goals as goal

pub returns-in-Ok : goal.returns-in-Ok
returns-in-Ok c = ap open_number (sym c.in-Ok.is)

pub returns-in-Err : goal.returns-in-Err
returns-in-Err c = c.number.ensures ∙ ap open_number (sym c.in-Err.is)
