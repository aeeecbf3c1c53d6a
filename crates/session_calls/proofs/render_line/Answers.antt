-- `session_calls::render_line` writes a refusal's line with its number. Assumes nothing.
use Rattle.std.proofs.Common.{refl}
use Rattle.session_calls.proofs.Steps.{render_refused}
use Rattle.session_calls.proofs.render_line.Goals as goal

pub returns-in-Err-clause-number_value : goal.returns-in-Err-clause-number_value
returns-in-Err-clause-number_value c =
    let said = c.refused.ensures.number_value in
    render_refused _ _ said.0 said.1 c.in-Err.is c.number.ensures refl
