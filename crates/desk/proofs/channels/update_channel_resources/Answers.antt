-- `channels::update_channel_resources` meets its contract: after k turns, k steps are taken. Assumes nothing.
use native.Mathlib.Omega.{arith}
use Rattle.rows.specs.Loops.{turn_begin, turn_more, turn_end}
use Rattle.desk.specs.Channels.{channels_of, step_long}
use Rattle.desk.proofs.channels.update_channel_resources.Goals as goal

pub loop-k-init : goal.loop-k-init
loop-k-init c = turn_begin _ _ _ _ c.requires.0

pub loop-k-preserved : goal.loop-k-preserved
loop-k-preserved c =
    turn_more c.loop-k.invariant (omega arith)
    (step_long c.args.d.now c.args.n c.loop-k.k _ (omega (arith, c.min-k-end.ensures))) c.channel_record.ensures

pub returns : goal.returns
unfolding channels_of
returns c = turn_end c.loop-k.invariant (omega arith) c.min-k-end.ensures
