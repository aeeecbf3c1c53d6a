-- `gain::ramp_level` meets its contract: `Doing` holds at each turn. Assumes nothing.
use Rattle.std.proofs.Common.{◌<◌, length, refl, arith}
use Rattle.gain.specs.Gain.{scaled}
use Rattle.gain.proofs.Doing.{more, end, scaled_at}
use Rattle.gain.proofs.ramp_level.Goals as goal

pub loop-x-preserved : goal.loop-x-preserved
loop-x-preserved c =
    let l = c.loop-x in
    let gain = c.args.gain in
    let h : l.x-index < length l.s = omega arith in
    more l.invariant (scaled gain) _ (omega arith) (scaled_at gain l.s l.x-index h)

pub returns : goal.returns
unfolding scaled
returns c = end c.loop-x.invariant (omega arith) refl
