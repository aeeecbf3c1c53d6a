-- `gain::mix_moving` meets its contract: `Doing` holds at each turn. Assumes nothing.
use Rattle.std.proofs.Common.{◌+◌, ◌<◌, List, length, drop, refl, arith}
use lib.Ieee.{Float, binary32, add}
use Rattle.gain.specs.Gain.{mixed}
use Rattle.gain.proofs.Doing.{more, end, mixed_at}
use Rattle.gain.proofs.mix_moving.Goals as goal

pub loop-i-preserved : goal.loop-i-preserved
loop-i-preserved c =
    let a = c.args in
    let l = c.loop-i in
    let h : l.i < length l.d = omega arith in
    more l.invariant (λ (ds : List Float). mixed a.step (add binary32 l.v a.step) ds (drop (l.i + 1) a.s.now)) _ (omega arith)
    (mixed_at a.step l.v l.d a.s.now l.i h (omega arith))

pub returns : goal.returns
unfolding mixed
returns c = end c.loop-i.invariant (omega arith) refl
