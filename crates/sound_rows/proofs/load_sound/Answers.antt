-- `sound_rows::load_sound` meets its contract: the context is read word by word, the history copied out. Assumes nothing.
use mathlib.Core.Path.{◌∙◌}
use lib.ListN.{get_or}
use mir.Syntax.{w16}
use mir.Facts.{to_z-of_z}
use Rattle.sound_rows.specs.SoundRow.{sound_from, sound_of}
use Rattle.sound_rows.proofs.load_sound.Goals as goal

pub returns : goal.returns
unfolding sound_of
returns c =
    let x = c.cast_signed in
    let y = c.cast_signed-2 in
    λ i. sound_from (get_or c.args.contexts.now 0 0) ((to_z-of_z {w = w16} (record { sfits = x.type_inv }) ∙ x.ensures) i) ((to_z-of_z {w = w16} (record { sfits = y.type_inv }) ∙ y.ensures) i) (c.copy_out.ensures i)
