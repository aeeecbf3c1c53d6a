-- `renderer::counts::allowed` meets its contract: the first of the two questions that is answered "no" answers it. Assumes nothing.
use Rattle.std.proofs.Common.{refl, sym, ◌∙◌}
use Rattle.renderer.specs.Answers.{allowed_of}
use Rattle.renderer.proofs.counts.allowed.Goals as goal

pub returns-then-not-samples_allowed : goal.returns-then-not-samples_allowed
unfolding allowed_of
returns-then-not-samples_allowed c = rw (sym c.samples_allowed.ensures ∙ c.if-not-samples_allowed.true) refl

pub returns-then-not-counts_allowed : goal.returns-then-not-counts_allowed
unfolding allowed_of
returns-then-not-counts_allowed c =
    rw (sym c.samples_allowed.ensures ∙ c.if-not-samples_allowed.false, sym c.counts_allowed.ensures ∙ c.if-not-counts_allowed.true) refl

pub returns : goal.returns
unfolding allowed_of
returns c =
    rw (sym c.samples_allowed.ensures ∙ c.if-not-samples_allowed.false, sym c.counts_allowed.ensures ∙ c.if-not-counts_allowed.false) refl
