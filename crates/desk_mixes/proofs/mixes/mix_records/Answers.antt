-- `mixes::mix_records` meets its contract: after i turns, i steps are taken. Assumes nothing.
use native.Mathlib.Omega.{arith}
use Rattle.rows.specs.Loops.{turn_begin, turn_more, turn_end}
use Rattle.desk_mixes.specs.Mixes.{mix_records}
use Rattle.desk_mixes.specs.MixLaws.{step_sized}
use Rattle.desk_mixes.proofs.mixes.mix_records.Goals as goal

pub loop-i-init : goal.loop-i-init
loop-i-init c = turn_begin _ _ _ _ c.requires

pub loop-i-preserved : goal.loop-i-preserved
loop-i-preserved c =
    turn_more c.loop-i.invariant (omega arith) (step_sized c.args.n c.args.dirty c.args.d.now c.loop-i.i _) c.mix_record.ensures

pub returns : goal.returns
unfolding mix_records
returns c = turn_end c.loop-i.invariant (omega arith) c.mixes_read-i-end.ensures
