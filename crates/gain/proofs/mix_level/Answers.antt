-- `gain::mix_level` meets its contract: `Doing` holds at each turn. Assumes nothing.
use Rattle.std.proofs.Common.{◌+◌, ◌<◌, List, length, drop, refl, arith}
use lib.Ieee.{Float}
use Rattle.gain.specs.Gain.{level}
use Rattle.gain.proofs.Doing.{more, end, level_at_lem}
use Rattle.gain.proofs.mix_level.Goals as goal

pub loop-i-preserved : goal.loop-i-preserved
loop-i-preserved c =
    let a = c.args in
    let l = c.loop-i in
    let h : l.i < length l.d = omega arith in
    more l.invariant (λ (ds : List Float). level a.v ds (drop (l.i + 1) a.s.now)) _ (omega arith) (level_at_lem a.v l.d a.s.now l.i h (omega arith))

pub returns : goal.returns
unfolding level
returns c = end c.loop-i.invariant (omega arith) refl
