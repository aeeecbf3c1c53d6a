-- `sinks::update_sinks` meets its contract: after k turns, k steps are taken. Assumes nothing.
use mathlib.Core.Path.{ap}
use native.Mathlib.Omega.{arith}
use Rattle.rows.specs.Loops.{turn_begin, turn_more, turn_end}
use Rattle.desk.specs.Sinks.{SinkRows, sinks_of}
use Rattle.desk.specs.SinkLaws.{step_sized}
use Rattle.desk.proofs.sinks.update_sinks.Goals as goal

pub loop-k-init : goal.loop-k-init
loop-k-init c = turn_begin _ _ _ _ c.requires

pub loop-k-preserved : goal.loop-k-preserved
loop-k-preserved c =
    turn_more c.loop-k.invariant (omega arith) (step_sized c.args.n c.args.d.now c.loop-k.k _ (omega (arith, c.min-k-end.ensures))) c.sink_record.ensures

pub returns : goal.returns
unfolding sinks_of
returns c =
    let e = turn_end c.loop-k.invariant (omega arith) c.min-k-end.ensures in record { words_after = ap (λ (st : SinkRows). st.words) e; floats_after = ap (λ (st : SinkRows). st.floats) e }
