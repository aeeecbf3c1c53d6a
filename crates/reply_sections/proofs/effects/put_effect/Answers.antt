-- `put_effect` meets its contract: a byte, and zeros behind it. Assumes nothing.
use mathlib.Core.Path.{refl, ap, sym, ◌∙◌}
use mathlib.Core.List.{[], ◌∷◌}
use Prim.Native.Nat.{◌-◌}
use native.Mathlib.Omega.{arith}
use Rattle.rows.specs.Rows.{put, put_one, put_more}
use Rattle.reply_sections.specs.Bytes.{zeros, length_zeros, put_none}
use Rattle.reply_sections.specs.Effects.{effect_none, effect_some}
use Rattle.reply_sections.proofs.effects.put_effect.Goals as goal

pub returns-then-w-gt0 : goal.returns-then-w-gt0
unfolding zeros
returns-then-w-gt0 c =
    put_more c.args.out.now c.args.at 1 (c.args.state ∷ []) (zeros (c.args.w - 1)) refl (omega (arith, length_zeros (c.args.w - 1))) (put_one _ _ _ (omega arith)) c.fill.ensures
    ∙ ap (put _ _) (sym (effect_some c.args.w c.args.state (omega arith)))

pub returns-else-w-gt0 : goal.returns-else-w-gt0
returns-else-w-gt0 c = put_none _ _ (omega arith) ∙ ap (put _ _) (sym (effect_none _ _ (omega arith)))
