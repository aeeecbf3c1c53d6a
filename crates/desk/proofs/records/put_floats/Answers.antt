-- `records::put_floats` meets its contract: `Tabling` holds at each turn. Assumes nothing.
use native.Mathlib.Omega.{arith}
use Rattle.rows.specs.Tables.{table_begin, table_step, table_end}
use Rattle.desk.specs.Records.{float_at}
use Rattle.desk.proofs.records.put_floats.Goals as goal

pub loop-k-init : goal.loop-k-init
loop-k-init c = table_begin _ _ _ _ (omega arith)

pub loop-k-preserved : goal.loop-k-preserved
unfolding float_at
loop-k-preserved c = table_step c.loop-k.invariant (omega arith) (omega arith) c.f32_at.ensures

pub returns : goal.returns
returns c = table_end c.loop-k.invariant (omega arith)
