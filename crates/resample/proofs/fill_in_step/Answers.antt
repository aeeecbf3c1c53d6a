-- `resample::fill_in_step` meets its contract: output k is the cubic at 0 through the points from k on. Assumes nothing.
use Rattle.std.proofs.Common.{sym, ◌∙◌, arith}
use lib.Ieee.{of_bits}
use Rattle.resample.specs.InStep.{in_step_sample, in_step_next}
use Rattle.resample.proofs.Filling.{begin, more, whole}
use Rattle.resample.proofs.fill_in_step.Goals as goal

pub loop-k-init : goal.loop-k-init
loop-k-init c = begin _ _ _ _ _

pub loop-k-preserved : goal.loop-k-preserved
unfolding of_bits
loop-k-preserved c =
    more _ _ _ _ _ _ _ _ (omega arith) (omega arith) c.loop-k.invariant
    (c.interpolate.ensures ∙ sym (in_step_sample _ _ _ _ c.requires.in_step c.loop-k.k (omega arith)))

pub returns : goal.returns
unfolding of_bits
returns c =
    (in_step_next c.args.input.now _ _ _ c.requires.in_step, whole _ _ _ _ _ _ _ (omega arith) c.loop-k.invariant)
