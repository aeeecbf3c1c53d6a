-- `splitter::splitter_sends` meets its contract: `Turning` holds at each turn. Assumes nothing.
use mathlib.Core.Path.{refl}
use native.Mathlib.Omega.{arith}
use Rattle.voice_sends.specs.Sending.{splitter_sends}
use Rattle.rows.specs.Loops.{turn_begin, turn_more, turn_end}
use Rattle.voice_sends.specs.Sizes.{list_keeps}
use Rattle.voice_sends.proofs.splitter.splitter_sends.Goals as goal

pub loop-c-init : goal.loop-c-init
loop-c-init c = turn_begin _ _ _ _ (record { buffers = refl; gains = omega arith })

pub loop-c-preserved : goal.loop-c-preserved
loop-c-preserved c = turn_more c.loop-c.invariant (omega arith) (list_keeps _ _ _ _ _ _ _ _ _ _ _) c.send_list.ensures

pub returns : goal.returns
unfolding splitter_sends
returns c = turn_end c.loop-c.invariant (omega arith) refl
