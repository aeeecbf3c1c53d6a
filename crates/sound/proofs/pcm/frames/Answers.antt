-- `sound::frames` meets its contract, for either width: after each turn the front is filled with the samples of one channel. Assumes nothing.
use mathlib.Core.Path.{◌∙◌}
use native.Mathlib.Omega.{arith}
use Rattle.sound.specs.Fill.{filled_none, filled_length, filled_more, filled_all}
use Rattle.sound.specs.Perform.{wide_le}
use Rattle.sound.specs.Sound.{pcm_at, pcm_of}
use Rattle.sound.proofs.pcm.frames.Goals as goal

pub loop-j-init : goal.loop-j-init
loop-j-init c = filled_none _ _ _ c.requires.channels_bound.3

pub place-requires : goal.place-requires
place-requires c =
    omega (arith, wide_le c.args.width c.requires.width_value)

pub bounds-out-j : goal.bounds-out-j
bounds-out-j c = omega (arith, filled_length c.loop-j.invariant)

pub loop-j-preserved : goal.loop-j-preserved
loop-j-preserved c =
    filled_more c.loop-j.invariant c.loop-j-test.true (c.sample_at.ensures ∙ (λ i. pcm_at c.args.width c.args.d.now (c.place.ensures i)))

pub returns : goal.returns
unfolding pcm_of
returns c = filled_all c.loop-j.invariant (omega arith)
