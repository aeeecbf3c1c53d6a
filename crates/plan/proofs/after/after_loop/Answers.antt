-- `plan::after_loop` meets its contract: the calls give the parts of `afterLoop`. Assumes nothing.
use Rattle.std.proofs.Common.{sym, refl, ◌∙◌}
use Rattle.voice.specs.Queue.{queue_at}
use Rattle.plan.specs.Laws.{loop_made}
use Rattle.plan.proofs.after.after_loop.Goals as goal

pub returns-then-resets : goal.returns-then-resets
returns-then-resets c b e =
    loop_made (queue_at b c.args.p) c.args.s.decoding c.args.s.buffers_v2 c.args.wb c.args.got
    refl c.loops_over-over.ensures (c.end_if-ended.ensures b e)
    (sym c.resets.ensures ∙ c.if-resets.true)

pub returns-else-resets : goal.returns-else-resets
returns-else-resets c b e =
    loop_made (queue_at b c.args.p) c.args.s.decoding c.args.s.buffers_v2 c.args.wb c.args.got
    refl c.loops_over-over.ensures (c.end_if-ended.ensures b e)
    (sym c.resets.ensures ∙ c.if-resets.false)
