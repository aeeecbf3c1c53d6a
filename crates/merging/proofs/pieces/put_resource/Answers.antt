-- `pieces::put_resource` meets its contract, by whether the click names it. Assumes nothing.
use Rattle.std.proofs.Common.{arith}
use Rattle.std.proofs.lemmas.Grind.{common_steps}
use Rattle.merging.specs.Merge.{chosen_resource}
use Rattle.merging.proofs.pieces.put_resource.Goals as goal

pub returns : goal.returns
unfolding chosen_resource
returns c = grind (arith, common_steps)
