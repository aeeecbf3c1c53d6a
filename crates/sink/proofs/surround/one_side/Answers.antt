-- `surround::one_side` meets its contract: the same operations in the same order. Assumes nothing.
use mathlib.Core.Path.{refl}
use Rattle.sink.specs.Sink.{side}
use Rattle.sink.proofs.surround.one_side.Goals as goal

pub returns : goal.returns
unfolding side
returns c = refl
