-- `Params::reply_length` meets its contract: the rest and the effects. Assumes nothing.
use Rattle.std.proofs.Common.{arith, rules}
use Rattle.params.specs.Sizes.{reply_length}
use Rattle.params.specs.Laws.{fixed_small, effects_fit}
use Rattle.params.proofs.params.Params.reply_length.Goals as goal

pub overflow_add-result : goal.overflow_add-result
overflow_add-result c =
    omega (arith, fixed_small c.args.self c.requires, effects_fit c.args.self c.args.expected)

pub returns : goal.returns
unfolding reply_length
returns c = search rules
