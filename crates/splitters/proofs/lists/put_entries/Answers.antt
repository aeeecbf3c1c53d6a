-- `splitters::lists::put_entries` meets its contract: `Tabling` holds at each turn. Assumes nothing.
use mathlib.Core.Path.{ap, ◌∙◌}
use native.Mathlib.Omega.{arith}
use Rattle.rows.specs.Tables.{table_begin, table_step, table_end}
use Rattle.fields.specs.Fields.{positive}
use Rattle.splitters.specs.Lists.{entry_of}
use Rattle.splitters.proofs.lists.put_entries.Goals as goal

pub loop-k-init : goal.loop-k-init
loop-k-init c = table_begin _ _ _ _ (omega arith)

pub loop-k-preserved : goal.loop-k-preserved
unfolding entry_of
loop-k-preserved c =
    table_step c.loop-k.invariant (omega arith) (omega arith) (c.positive.ensures ∙ ap positive c.u32_at.ensures)

pub returns : goal.returns
returns c = table_end c.loop-k.invariant (omega arith)
