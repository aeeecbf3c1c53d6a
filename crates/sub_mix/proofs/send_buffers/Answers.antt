-- `sub_mix::send_buffers` meets its contract: `Turning` holds at each turn. Assumes nothing.
use native.Mathlib.Omega.{arith}
use Rattle.rows.specs.Loops.{turn_begin, turn_more, turn_end}
use Rattle.sub_mix.proofs.send_buffers.Goals as goal

pub loop-i-init : goal.loop-i-init
loop-i-init c = turn_begin _ _ _ _ tt

pub loop-i-preserved : goal.loop-i-preserved
loop-i-preserved c = turn_more c.loop-i.invariant (omega arith) (λ _. tt) (rw c.loop-i.auto.src at c.send_buffer.ensures)

pub returns : goal.returns
returns c = turn_end c.loop-i.invariant (omega arith) c.buffer_count-i-end.ensures.0
