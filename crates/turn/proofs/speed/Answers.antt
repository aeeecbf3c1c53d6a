-- `turn::speed` meets its contract: the same operations in the same order. Assumes nothing.
use Rattle.turn.specs.Turn.{speed_of}
use Rattle.turn.proofs.speed.Goals as goal

pub returns : goal.returns
unfolding speed_of
returns c = cc
