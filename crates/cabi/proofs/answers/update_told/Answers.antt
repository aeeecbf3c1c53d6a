-- `cabi::answers::update_told` meets its contract. Assumes nothing.
use Rattle.std.proofs.Common.{ap, sym, ◌∙◌}
use Rattle.cabi.specs.Answers.{update_told}
use Rattle.cabi.proofs.answers.update_told.Goals as goal

pub returns-in-Ok : goal.returns-in-Ok
returns-in-Ok c = ap update_told (sym c.in-Ok.is)

pub returns-in-Err : goal.returns-in-Err
returns-in-Err c = (λ i. record { number = c.number.ensures i; size = 0 }) ∙ ap update_told (sym c.in-Err.is)
