-- `gain::ramp` meets its contract: its test is the definition's, and so is the step; a gain that does not move is level. Assumes nothing.
use Rattle.std.proofs.Common.{sym, ap, ◌∙◌}
use lib.Ieee.{Float, of_bits}
use Rattle.gain.specs.Gain.{ramp_of, ramped}
use Rattle.gain.specs.Laws.{scaled_is}
use Rattle.gain.proofs.ramp.Goals as goal

pub returns-then-both : goal.returns-then-both
unfolding ramp_of of_bits
returns-then-both c = simp (sym c.both.ensures ∙ c.if-both.true)

pub returns-else-steady : goal.returns-else-steady
unfolding ramp_of of_bits
returns-else-steady c =
    let a = c.args in
    simp (sym c.both.ensures ∙ c.if-both.false)
    (c.ramp_by.ensures ∙ ap (λ (x : Float). ramped x a.from a.s.now) c.step_of-step.ensures)

pub returns-then-steady : goal.returns-then-steady
unfolding ramp_of of_bits
returns-then-steady c =
    let a = c.args in
    let still = c.steady.ensures c.if-steady.true in
    simp (sym c.both.ensures ∙ c.if-both.false)
    (c.ramp_level.ensures ∙ scaled_is _ _ still _ ∙ ap (λ (x : Float). ramped x a.from a.s.now) c.step_of-step.ensures)
