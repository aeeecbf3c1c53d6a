-- `Params::fixed_output_size` meets its contract: the sum of the sections. Assumes nothing.
use Rattle.std.proofs.Common.{arith, rules}
use Rattle.params.specs.Sizes.{fixed_of}
use Rattle.params.specs.Laws.{info_small}
use Rattle.params.proofs.params.Params.fixed_output_size.Goals as goal

pub overflow_add-result-6 : goal.overflow_add-result-6
overflow_add-result-6 c =
    omega (arith, info_small c.args.self)

pub returns : goal.returns
unfolding fixed_of
returns c = search rules
