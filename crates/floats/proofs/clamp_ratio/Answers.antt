-- `floats::clamp_ratio` meets its contract: its test is `finite`, its clamp the definition's. Assumes nothing.
use Rattle.std.proofs.Common.{Bool, cond, sym, ap, ◌∙◌}
use lib.Ieee.{of_bits}
use Rattle.floats.specs.Defs.{clamp_of, ratio_of, zero32, sixteen}
use Rattle.floats.proofs.clamp_ratio.Goals as goal

pub returns-then-is_finite : goal.returns-then-is_finite
unfolding ratio_of of_bits
returns-then-is_finite c =
    c.clamp.ensures
    ∙ sym (ap (λ (t : Bool). cond t (clamp_of zero32 sixteen c.args.x) zero32) (sym c.is_finite.ensures ∙ c.if-is_finite.true))

pub returns-else-is_finite : goal.returns-else-is_finite
unfolding ratio_of of_bits
returns-else-is_finite c = simp (sym c.is_finite.ensures ∙ c.if-is_finite.false)
