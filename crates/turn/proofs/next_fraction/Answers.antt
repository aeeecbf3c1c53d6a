-- `turn::next_fraction` meets its contract: the same operations in the same order. Assumes nothing.
use Rattle.resample.specs.Defs.{pos_at, next_of}
use Rattle.turn.proofs.next_fraction.Goals as goal

pub returns : goal.returns
unfolding next_of pos_at
returns c = cc
