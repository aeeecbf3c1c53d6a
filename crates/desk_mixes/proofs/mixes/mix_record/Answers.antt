-- `mixes::mix_record` meets its contract: the record is inside, and its mix's rows are put. Assumes nothing.
use native.Mathlib.Omega.{arith}
use Rattle.desk_mixes.specs.MixLaws.{mix_inside}
use Rattle.desk_mixes.proofs.MixRow.{record_is, acts, stays}
use Rattle.desk_mixes.proofs.mixes.mix_record.Goals as goal

pub overflow_mul-at : goal.overflow_mul-at
overflow_mul-at c =
    omega (arith, mix_inside c.args.dirty c.args.d.now c.args.i c.requires.0)

pub overflow_add-at : goal.overflow_add-at
overflow_add-at c =
    omega (arith, c.mix_base.ensures, mix_inside c.args.dirty c.args.d.now c.args.i c.requires.0)

pub returns-then-id-n : goal.returns-then-id-n
returns-then-id-n c =
    acts c.args.dirty c.args.d.now c.args.n c.args.i
    (record_is c.args.dirty c.args.d.now c.args.i c.mix_base.ensures c.section-p.ensures) c.mix_id-id.ensures _ c.if-id-n.true c.put_mix.ensures

pub returns-else-id-n : goal.returns-else-id-n
returns-else-id-n c =
    stays c.args.dirty c.args.d.now c.args.n c.args.i
    (record_is c.args.dirty c.args.d.now c.args.i c.mix_base.ensures c.section-p.ensures) c.mix_id-id.ensures _ c.if-id-n.false
