-- `session_calls::run_call` meets its contract: by the kinds of calls. Assumes nothing.
use Rattle.std.proofs.Common.{Some, ap, ◌∙◌}
use Rattle.session.specs.declared.input.Call.{Call}
use Rattle.session_calls.proofs.Steps.{call_render, call_update, call_nothing}
use Rattle.session_calls.proofs.run_call.Goals as goal

pub returns-in_default-clause-size_after : goal.returns-in_default-clause-size_after
returns-in_default-clause-size_after c =
    let said = c.refused.ensures.number_value in
    call_nothing _ _ _ _ c.in_default.is said.0 said.1

pub returns-in-Render-clause-size_after : goal.returns-in-Render-clause-size_after
returns-in-Render-clause-size_after c =
    call_render _ _ _ _ _ _ (c.in-Some.is ∙ ap (λ (x : Call). Some x) c.in-Render.is) c.run_render.ensures.size_after

pub returns-in-Update-clause-size_after : goal.returns-in-Update-clause-size_after
returns-in-Update-clause-size_after c =
    call_update _ _ _ _ _ _ (c.in-Some.is ∙ ap (λ (x : Call). Some x) c.in-Update.is) c.section.ensures c.run_update.ensures.size_after
