-- `cabi::answers::lengths_told` meets its contract. Assumes nothing.
use Rattle.std.proofs.Common.{ap, sym, ◌∙◌}
use Rattle.calls.specs.Calls.{lengths_refused}
use Rattle.renderer.specs.Answers.{lengths_seen}
use Rattle.cabi.proofs.answers.lengths_told.Goals as goal

pub returns-in-Ok : goal.returns-in-Ok
returns-in-Ok c = ap lengths_seen (sym c.in-Ok.is)

pub returns-in-Err : goal.returns-in-Err
returns-in-Err c = ap lengths_refused c.number.ensures ∙ ap lengths_seen (sym c.in-Err.is)
