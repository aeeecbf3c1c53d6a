-- `session_calls::run_update`: the step is what the renderer's update left and the line that was written. Assumes nothing.
use Rattle.std.proofs.Common.{arith, []}
use Rattle.session_calls.proofs.Steps.{update_ran, reply_inside}
use Rattle.session_calls.proofs.run_update.Goals as goal

pub update_line-requires-clause-answer_in_bounds : goal.update_line-requires-clause-answer_in_bounds
update_line-requires-clause-answer_in_bounds c =
    let same = c.update-answer.auto.reply in
    let inside = reply_inside _ _ _ _ c.update-answer.result c.update-answer.ensures in
    (omega (arith, inside, same), omega (arith, same, c.requires.reply_len_bound))

pub returns-clause-size_after : goal.returns-clause-size_after
returns-clause-size_after c =
    let line = c.update_line.ensures.number_value in
    update_ran _ _ _ _ c.update-answer.result c.update-answer.ensures [] _ line.0 line.1
