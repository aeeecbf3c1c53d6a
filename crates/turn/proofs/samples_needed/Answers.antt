-- `turn::samples_needed` meets its contract: by the voice's own ratio. Assumes nothing.
use Rattle.std.proofs.Common.{◌∙◌}
use Rattle.resample.specs.Defs.{needed_of}
use Rattle.turn.specs.Turn.{needed_by}
use Rattle.turn.proofs.samples_needed.Goals as goal

pub returns : goal.returns
unfolding needed_by
returns c numbers =
    c.needed.ensures ∙ (λ i. needed_of c.args.v.fraction (c.ratio.ensures i) c.args.r.sample_count)
