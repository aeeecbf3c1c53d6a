-- `session::put_floats` meets its contract: `Writing` holds at each turn. Assumes nothing.
use native.Mathlib.Omega.{arith}
use lib.Ieee.{nan}
use lib.ListN.{get_or}
use Rattle.session.specs.Lines.{floats_text}
use Rattle.session.specs.Written.{write_begin, write_room, write_more, write_end}
use Rattle.session.specs.Words.{length_float}
use Rattle.session.proofs.lines.put_floats.Goals as goal

pub loop-x-init : goal.loop-x-init
loop-x-init c = write_begin _ _ _ _ (omega arith)

pub put_float-end-requires : goal.put_float-end-requires
put_float-end-requires c =
    write_room c.loop-x.invariant (omega arith) c.requires

pub loop-x-preserved : goal.loop-x-preserved
loop-x-preserved c =
    write_more c.loop-x.invariant (omega arith) c.requires (omega (arith, length_float (get_or c.args.s.now c.loop-x.x-index nan))) c.put_float-end.ensures

pub returns : goal.returns
unfolding floats_text
returns c = write_end c.loop-x.invariant (omega arith)
