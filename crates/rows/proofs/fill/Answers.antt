-- `rows::fill` meets its contract: the value is stored at each turn. Assumes nothing.
use mathlib.Core.Path.{refl, ap, ◌∙◌}
use native.Mathlib.Omega.{arith}
use Rattle.rows.specs.Rows.{put}
use Rattle.rows.specs.Tables.{table_begin, table_step, table_end, table_same}
use Rattle.rows.proofs.fill.Goals as goal

pub loop-k-init : goal.loop-k-init
loop-k-init g c = table_begin _ _ _ _ (omega arith)

pub loop-k-preserved : goal.loop-k-preserved
loop-k-preserved g c = table_step c.loop-k.invariant (omega arith) (omega arith) refl

pub returns : goal.returns
returns g c = table_end c.loop-k.invariant (omega arith) ∙ ap (put _ _) (table_same _ c.args.value)
