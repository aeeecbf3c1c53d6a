-- `session_calls::update_line` writes a refusal's line with its number. Assumes nothing.
use Rattle.std.proofs.Common.{refl}
use Rattle.session_calls.proofs.Steps.{update_refused}
use Rattle.session_calls.proofs.update_line.Goals as goal

pub returns-in-Err-clause-number_value : goal.returns-in-Err-clause-number_value
returns-in-Err-clause-number_value c =
    let said = c.refused.ensures.number_value in
    update_refused _ _ said.0 said.1 c.in-Err.is c.number.ensures refl
