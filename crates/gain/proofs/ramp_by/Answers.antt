-- `gain::ramp_by` meets its contract: `Doing` holds at each turn. Assumes nothing.
use Rattle.std.proofs.Common.{◌<◌, length, refl, arith}
use lib.Ieee.{binary32, add}
use Rattle.gain.specs.Gain.{ramped}
use Rattle.gain.proofs.Doing.{more, end, ramped_at}
use Rattle.gain.proofs.ramp_by.Goals as goal

pub loop-x-preserved : goal.loop-x-preserved
loop-x-preserved c =
    let l = c.loop-x in
    let step = c.args.step in
    let h : l.x-index < length l.s = omega arith in
    more l.invariant (ramped step (add binary32 l.v step)) _ (omega arith) (ramped_at step l.v l.s l.x-index h)

pub returns : goal.returns
unfolding ramped
returns c = end c.loop-x.invariant (omega arith) refl
