-- `cabi::jeqlluna_mix_order` meets its contract. Assumes nothing.
use mathlib.Core.Path.{◌∙◌}
use Rattle.cabi.proofs.jeqlluna_mix_order.Goals as goal

pub returns : goal.returns
returns c = c.order_told.ensures ∙ c.mix_order.ensures
