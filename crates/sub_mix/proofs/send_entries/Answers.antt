-- `sub_mix::send_entries` meets its contract: `Turning` holds at each turn. Assumes nothing.
use native.Mathlib.Omega.{arith}
use Rattle.rows.specs.Loops.{turn_begin, turn_more, turn_end}
use Rattle.sub_mix.proofs.send_entries.Goals as goal

pub loop-k-init : goal.loop-k-init
loop-k-init c = turn_begin _ _ _ _ tt

pub loop-k-preserved : goal.loop-k-preserved
loop-k-preserved c =
    turn_more c.loop-k.invariant (omega arith) (λ _. tt)
    (rw (c.loop-k.auto.src, c.list_entry-d.ensures, c.splitter-s.ensures) at c.send_entry.ensures)

pub returns : goal.returns
returns c = turn_end c.loop-k.invariant (omega arith) (rw c.splitter-s.ensures at c.list_length-k-end.ensures.0)
