-- `sound_rows::store_context` meets its contract: the copied row is the context's three words. Assumes nothing.
use mathlib.Core.List.{◌∷◌, []}
use mathlib.Core.Path.{ap, ◌∙◌}
use native.Mathlib.Omega.{arith}
use mir.Syntax.{w16}
use mir.Val.{of_z}
use mir.Facts.{to_z-of_z}
use Rattle.rows.specs.Rows.{put}
use Rattle.sound_rows.specs.SoundRow.{words_of_context}
use Rattle.sound_rows.proofs.store_context.Goals as goal

pub returns : goal.returns
unfolding words_of_context
returns c =
    let y = c.cast_unsigned-2 in
    let x = c.cast_unsigned in
    c.copy_in.ensures
    ∙ ap (put c.args.contexts.now c.args.at) (λ i. c.args.c.pred_scale ∷ (x.ensures ∙ ap (of_z w16) (to_z-of_z {w = w16} {z = c.args.c.history0} (record { sfits = omega arith }))) i ∷ (y.ensures ∙ ap (of_z w16) (to_z-of_z {w = w16} {z = c.args.c.history1} (record { sfits = omega arith }))) i ∷ [])
