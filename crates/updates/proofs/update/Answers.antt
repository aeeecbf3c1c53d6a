-- `updates::update` meets its contract: the state first, then the reply of it. Assumes nothing.
use Rattle.updates.specs.Update.{update_reply}
use Rattle.updates.proofs.update.Goals as goal

pub returns-clause-reply_after : goal.returns-clause-reply_after
unfolding update_reply
returns-clause-reply_after c = c.write_reply.ensures
