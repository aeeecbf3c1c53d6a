-- `plan::table_read` meets its contract: each way out is a case of the tests. Assumes nothing.
use Rattle.std.proofs.Common.{eq-eqb, ne_eqb}
use Rattle.plan.specs.Rounds.{has_table}
use Rattle.plan.proofs.rounds.table_read.Goals as goal

pub returns-then-s-eq-ADPCM : goal.returns-then-s-eq-ADPCM
unfolding has_table
returns-then-s-eq-ADPCM c = simp (eq-eqb _ _ c.if-s-eq-ADPCM.true) c.readable.ensures

pub returns-else-s-eq-ADPCM : goal.returns-else-s-eq-ADPCM
unfolding has_table
returns-else-s-eq-ADPCM c = simp (ne_eqb _ _ c.if-s-eq-ADPCM.false)
