-- `voice::sound_after` meets its contract, by whether the voice is renewed. Assumes nothing.
use Rattle.std.proofs.Common.{Bool, sym, ap, ◌∙◌}
use Rattle.voice.specs.Sound.{sound_after}
use Rattle.voice.proofs.sound.sound_after.Goals as goal

pub returns-then-renewed : goal.returns-then-renewed
unfolding sound_after
returns-then-renewed c = c.silent.ensures ∙ sym (ap (λ (b : Bool). sound_after b c.args.s) c.if-renewed.true)

pub returns-else-renewed : goal.returns-else-renewed
unfolding sound_after
returns-else-renewed c = sym (ap (λ (b : Bool). sound_after b c.args.s) c.if-renewed.false)
