-- `sink::put_frame` meets its contract: two stores. Assumes nothing.
use native.Mathlib.Omega.{arith}
use lib.ListN.{length-set}
use Rattle.sink.proofs.put_frame.Goals as goal

pub bounds-out-i-2 : goal.bounds-out-i-2
bounds-out-i-2 c = simp length-set (omega arith)

pub returns : goal.returns
returns c = rw (c.to_unit.ensures, c.to_unit-2.ensures)
