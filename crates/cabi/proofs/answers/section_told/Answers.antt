-- `cabi::answers::section_told` meets its contract. Assumes nothing.
use Rattle.std.proofs.Common.{ap, sym, ◌∙◌}
use Rattle.cabi.specs.Answers.{section_told}
use Rattle.cabi.proofs.answers.section_told.Goals as goal

pub returns-in-Ok : goal.returns-in-Ok
returns-in-Ok c = ap section_told (sym c.in-Ok.is)

pub returns-in-Err : goal.returns-in-Err
returns-in-Err c = (λ i. record { number = c.number.ensures i; rounds = 0 }) ∙ ap section_told (sym c.in-Err.is)
