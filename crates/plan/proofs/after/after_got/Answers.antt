-- `plan::after_got` meets its contract: the calls give the parts of `afterGot`, by whether the span is over. Assumes nothing.
use Rattle.std.proofs.Common.{sym, refl, ◌∙◌}
use Rattle.voice.specs.Queue.{queue_at}
use Rattle.plan.specs.Laws.{got_made}
use Rattle.plan.proofs.after.after_got.Goals as goal

pub returns-then-wb : goal.returns-then-wb
returns-then-wb c b e =
    got_made (queue_at b c.args.p) c.args.s.decoding c.args.s.buffers_v2 c.args.wb c.args.total c.args.got
    refl refl (sym c.span_over.ensures ∙ c.if-span_over.true)
    c.if-wb.true (c.after_loop.ensures b e) refl

pub returns-then-span_over : goal.returns-then-span_over
returns-then-span_over c b e =
    got_made (queue_at b c.args.p) c.args.s.decoding c.args.s.buffers_v2 c.args.wb c.args.total c.args.got
    refl refl (sym c.span_over.ensures ∙ c.if-span_over.true)
    c.if-wb.false refl (c.after_missing.ensures b e)

pub returns : goal.returns
returns c b e =
    got_made (queue_at b c.args.p) c.args.s.decoding c.args.s.buffers_v2 c.args.wb c.args.total c.args.got
    refl refl
    (sym c.span_over.ensures ∙ c.if-span_over.false) refl refl refl
