-- `session_calls::run_render`: the step is what the renderer's render left and the line that was written. Assumes nothing.
use Rattle.ranges.specs.Ranges.{ranges_of}
use Rattle.session_calls.proofs.Steps.{render_ran}
use Rattle.session_calls.proofs.run_render.Goals as goal

pub returns-clause-size_after : goal.returns-clause-size_after
unfolding ranges_of
returns-clause-size_after c =
    let line = c.render_line.ensures.number_value in
    render_ran _ _ _ _ _ c.render-answer.result c.render-answer.ensures line.0 line.1
