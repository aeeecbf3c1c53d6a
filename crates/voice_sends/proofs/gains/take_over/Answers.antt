-- `gains::take_over` meets its contract: `Turning` holds at each turn. Assumes nothing.
use mathlib.Core.Path.{refl}
use native.Mathlib.Omega.{arith}
use Rattle.voice_sends.specs.Sending.{taken_over}
use Rattle.rows.specs.Loops.{turn_begin, turn_more, turn_end}
use Rattle.voice_sends.specs.Laws.{taken_keeps}
use Rattle.voice_sends.proofs.gains.take_over.Goals as goal

pub loop-c-init : goal.loop-c-init
loop-c-init c = turn_begin _ _ _ _ (omega arith)

pub loop-c-preserved : goal.loop-c-preserved
loop-c-preserved c =
    let l = c.loop-c in
    turn_more l.invariant (omega arith) (taken_keeps _ _ (c.requires.fact_1.each l.c (omega arith)))
    c.take_row.ensures

pub returns : goal.returns
unfolding taken_over
returns c = turn_end c.loop-c.invariant (omega arith) refl
