-- `pool_word` meets its contract: by whether the record begins within the section. Assumes nothing.
use mathlib.Core.Path.{sym, ◌∙◌}
use Rattle.reply_sections.specs.Pools.{pool_in, pool_out}
use Rattle.reply_sections.proofs.pools.pool_word.Goals as goal

pub returns-then-i-size : goal.returns-then-i-size
returns-then-i-size c = c.u32_at.ensures ∙ sym (pool_in _ _ _ _ c.if-i-size.true)

pub returns-else-i-size : goal.returns-else-i-size
returns-else-i-size c = sym (pool_out _ _ _ _ c.if-i-size.false)
