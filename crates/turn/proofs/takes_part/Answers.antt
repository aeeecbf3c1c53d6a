-- `turn::takes_part` meets its contract: each way out is a case of the first test. Assumes nothing.
use Rattle.turn.specs.Turn.{takes_part}
use Rattle.turn.proofs.takes_part.Goals as goal

pub returns-then-v : goal.returns-then-v
unfolding takes_part
returns-then-v c = rw c.if-v.true

pub returns-else-v : goal.returns-else-v
unfolding takes_part
returns-else-v c = rw c.if-v.false
