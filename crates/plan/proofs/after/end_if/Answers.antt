-- `plan::end_if` meets its contract: each way out is a case of the test. Assumes nothing.
use Rattle.plan.proofs.after.end_if.Goals as goal

pub returns-then-over : goal.returns-then-over
returns-then-over c b e = rw c.if-over.true (c.end_buffer.ensures b (λ i. (e i).end_of_stream))

pub returns : goal.returns
returns c b e = rw c.if-over.false
