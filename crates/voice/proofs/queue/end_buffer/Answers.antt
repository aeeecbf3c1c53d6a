-- `voice::end_buffer` meets its contract: what the calls and the branch give are the parts of `end_buffer`. Assumes nothing.
use Rattle.std.proofs.Common.{refl, ◌∙◌}
use Rattle.voice.specs.Queue.{queue_at}
use Rattle.voice.specs.Laws.{end_made}
use Rattle.voice.proofs.queue.end_buffer.Goals as goal

pub returns-then-last : goal.returns-then-last
returns-then-last c b e =
    let q = queue_at b c.args.p in
    end_made q c.next_slot.ensures refl (e ∙ c.if-last.true)

pub returns-else-last : goal.returns-else-last
returns-else-last c b e =
    let q = queue_at b c.args.p in
    end_made q c.next_slot.ensures refl (e ∙ c.if-last.false)
