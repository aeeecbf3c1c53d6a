-- `sound::float_at` meets its contract: a float, times a constant. Assumes nothing.
use mathlib.Core.Bool.{false}
use lib.IntN.{pos}
use lib.Ieee.{binary32, fin, mul, of_bits}
use Rattle.sound.specs.Sound.{pcm_at}
use Rattle.sound.proofs.pcm.float_at.Goals as goal

pub returns : goal.returns
unfolding pcm_at of_bits
returns c = λ i. mul binary32 (c.f32_at.ensures i) (fin false 1 (pos 15))
