-- `resample::fill_between` meets its contract: each turn makes one more output, wherever the whole part was looked for. Assumes nothing.
use Rattle.std.proofs.Common.{ap, ◌∙◌, arith}
use lib.Ieee.{Float}
use Rattle.resample.specs.Defs.{next_of, sample_from, index_at, sample_at}
use Rattle.resample.proofs.Filling.{begin, more, whole}
use Rattle.resample.proofs.fill_between.Goals as goal

pub loop-k-init : goal.loop-k-init
loop-k-init c = begin _ _ _ _ _

pub loop-k-preserved : goal.loop-k-preserved
unfolding sample_at
loop-k-preserved c =
    let xs = c.args.input.now in
    more _ _ _ _ _ _ _ _ (omega arith) (omega arith) c.loop-k.invariant
    (c.sample.ensures ∙ ap (λ (at : Float). sample_from xs at (index_at xs at)) c.place-pos.ensures)

pub returns : goal.returns
unfolding next_of
returns c =
    (cc, whole _ _ _ _ _ _ _ (omega arith) c.loop-k.invariant)
