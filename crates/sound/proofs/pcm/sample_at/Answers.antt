-- `sound::sample_at` meets its contract: one function for each width. Assumes nothing.
use mathlib.Core.Path.{sym, ◌∙◌}
use Rattle.sound.specs.Sound.{pcm_at}
use Rattle.sound.specs.Perform.{four_wide}
use Rattle.sound.proofs.pcm.sample_at.Goals as goal

pub returns-then-width-eq2 : goal.returns-then-width-eq2
returns-then-width-eq2 c =
    c.int16_at.ensures ∙ (λ i. pcm_at (sym c.if-width-eq2.true i) c.args.d.now c.args.o)

pub returns : goal.returns
returns c =
    c.float_at.ensures ∙ (λ i. pcm_at (sym (four_wide c.requires c.if-width-eq2.false) i) c.args.d.now c.args.o)
