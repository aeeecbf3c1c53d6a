-- `ramps::ramp_rows` meets its contract: `Turning` holds at each turn. Assumes nothing.
use mathlib.Core.Path.{refl}
use native.Mathlib.Omega.{arith}
use Rattle.voice_sends.specs.Sending.{ramped_rows}
use Rattle.rows.specs.Loops.{turn_begin, turn_more, turn_end}
use Rattle.voice_sends.specs.Laws.{row_inside, ramped_row_keeps}
use Rattle.voice_sends.proofs.ramps.ramp_rows.Goals as goal

pub loop-c-init : goal.loop-c-init
loop-c-init c = turn_begin _ _ _ _ refl

pub ramp_row-requires : goal.ramp_row-requires
ramp_row-requires c =
    let l = c.loop-c in
    omega (arith, row_inside c.args.n {channels = c.args.channels} {c = l.c} l.out (omega arith) (omega arith))

pub loop-c-preserved : goal.loop-c-preserved
loop-c-preserved c =
    turn_more c.loop-c.invariant (omega arith) (ramped_row_keeps _ _ _ _ c.args.channels (omega arith) _ _ (omega arith)) c.ramp_row.ensures

pub returns : goal.returns
unfolding ramped_rows
returns c = turn_end c.loop-c.invariant (omega arith) refl
