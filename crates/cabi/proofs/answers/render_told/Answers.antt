-- `cabi::answers::render_told` meets its contract. Assumes nothing.
use Rattle.std.proofs.Common.{ap, sym, ◌∙◌}
use Rattle.cabi.specs.Answers.{render_told}
use Rattle.cabi.proofs.answers.render_told.Goals as goal

pub returns-in-Ok : goal.returns-in-Ok
returns-in-Ok c = ap render_told (sym c.in-Ok.is)

pub returns-in-Err : goal.returns-in-Err
returns-in-Err c = (λ i. record { number = c.number.ensures i; rounds = 0 }) ∙ ap render_told (sym c.in-Err.is)
