-- `cabi::answers::order_told` meets its contract: a refusal has no sub-mix. Assumes nothing.
use Rattle.std.proofs.Common.{ap, sym, ◌∙◌}
use Rattle.rows.specs.Rows.{put}
use Rattle.calls.specs.Calls.{order_refused}
use Rattle.renderer.specs.Answers.{order_seen}
use Rattle.cabi.proofs.answers.order_told.Goals as goal

pub returns-in-Ok : goal.returns-in-Ok
returns-in-Ok c = ap order_seen (sym c.in-Ok.is)

pub returns-in-Err : goal.returns-in-Err
unfolding put
returns-in-Err c = ap order_refused c.number.ensures ∙ ap order_seen (sym c.in-Err.is)
