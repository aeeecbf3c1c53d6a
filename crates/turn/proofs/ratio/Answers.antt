-- `turn::ratio` meets its contract: by whether the voice's rate is converted. Assumes nothing.
use Rattle.std.proofs.Common.{◌≡◌, cond, sym, ◌∙◌}
use lib.Ieee.{of_bits}
use Rattle.floats.specs.Defs.{one, ratio_of as clamp_ratio}
use Rattle.turn.specs.Turn.{skips_conversion, speed_of, ratio_of}
use Rattle.turn.proofs.ratio.Goals as goal
use Rattle.turn.proofs.ratio.Goals.{then-skips_conversion, else-skips_conversion}

pub returns : goal.returns
unfolding ratio_of of_bits
returns c =
    let v = c.args.v in
    let chosen : c.if-skips_conversion.asked ≡ cond (skips_conversion v.decoding) one (speed_of c.args.rate v) = elim c.if-skips_conversion.branch [
      | then-skips_conversion w ↦
          w.asked-is ∙ (λ i. cond ((sym w.if-skips_conversion.true ∙ c.skips_conversion.ensures) i) one (speed_of c.args.rate v))
      | else-skips_conversion w ↦
          w.asked-is ∙ (λ i. cond ((sym w.if-skips_conversion.false ∙ c.skips_conversion.ensures) i) one (w.speed-asked.ensures i))
    ] in
    c.clamp_ratio.ensures ∙ (λ i. clamp_ratio (chosen i))
