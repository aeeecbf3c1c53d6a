-- `voice::prepare` meets its contract: what the calls give, by the play mark, are the parts of `prepare_of`. Assumes nothing.
use Rattle.std.proofs.Common.{◌<◌, inl, inr, sym, subst}
use Rattle.voice.specs.declared.queue.Queue.{Queue}
use Rattle.voice.specs.Prepares.{flush_queue, prepared_started, prepared_stopping, prepared_stopped, prepared_paused}
use Rattle.voice.specs.Slots.{flushed_index}
use Rattle.voice.specs.Voice.{queue_of}
use Rattle.voice.proofs.ready.prepare.Goals as goal

pub stop-requires : goal.stop-requires
stop-requires c =
    let walked = flush_queue c.args.v c.queue_of.ensures c.flush.ensures.queue_value in
    subst (λ (q : Queue). q.index < 4) (sym walked) (flushed_index _ _ (queue_of c.args.v) c.requires.index_bound)

pub returns-in-Started : goal.returns-in-Started
returns-in-Started c =
    let walked = flush_queue c.args.v c.queue_of.ensures c.flush.ensures.queue_value in
    prepared_started _ c.in-Started.is walked c.promote-queue.ensures c.with_queue.ensures c.any_valid.ensures

pub returns-in-Stopping : goal.returns-in-Stopping
returns-in-Stopping c =
    let walked = flush_queue c.args.v c.queue_of.ensures c.flush.ensures.queue_value in
    prepared_stopping _ c.in-Stopping.is walked c.stop.ensures c.with_stopped.ensures

pub returns-in-Stopped : goal.returns-in-Stopped
returns-in-Stopped c =
    let walked = flush_queue c.args.v c.queue_of.ensures c.flush.ensures.queue_value in
    elim c.in-Stopped.is [
      | inl e ↦ prepared_stopped _ e walked c.with_queue-in-Stopped.ensures
      | inr e ↦ prepared_paused _ e walked c.with_queue-in-Stopped.ensures
    ]
