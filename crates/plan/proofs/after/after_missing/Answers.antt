-- `plan::after_missing` meets its contract: it ends the buffer at offset 0. Assumes nothing.
use Rattle.plan.specs.Rounds.{after_missing}
use Rattle.plan.proofs.after.after_missing.Goals as goal

pub returns : goal.returns
unfolding after_missing
returns c b e = c.end_buffer.ensures b (λ i. (e i).end_of_stream)
