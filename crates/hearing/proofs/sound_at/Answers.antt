-- `hearing::sound_at` meets its contract: the parts lent are the rows of voice k. Assumes nothing.
use Prim.Native.Nat.{◌*◌}
use mathlib.Core.Path.{◌∙◌}
use Rattle.rows.specs.Lent.{part_cut}
use Rattle.sound_rows.specs.SoundRow.{sound_of}
use Rattle.hearing.specs.Hearing.{sound_in}
use Rattle.hearing.proofs.sound_at.Goals as goal

pub returns : goal.returns
unfolding sound_in
returns c =
    c.load_sound.ensures ∙ (λ i. sound_of (part_cut c.args.contexts.now (c.args.k * 3) 3 i) (part_cut c.args.history.now (c.args.k * 18) 18 i))
