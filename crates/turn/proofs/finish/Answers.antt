-- `turn::finish` meets its contract: what it stores is no part of the queue. Assumes nothing.
use Rattle.voice.specs.Voice.{queue_of}
use Rattle.turn.specs.Turn.{with}
use Rattle.turn.proofs.finish.Goals as goal

pub returns : goal.returns
returns c =
    λ i. let w = c.with_queue.ensures i in with w.fresh c.args.previous (queue_of w) c.args.fraction w
