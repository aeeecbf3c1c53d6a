-- `turn::freshen` meets its contract: each way out is a case of the test. Assumes nothing.
use Rattle.turn.specs.Turn.{freshened}
use Rattle.turn.proofs.freshen.Goals as goal

pub returns-then-v : goal.returns-then-v
unfolding freshened
returns-then-v c = rw c.if-v.true

pub returns-else-v : goal.returns-else-v
unfolding freshened
returns-else-v c = rw c.if-v.false
