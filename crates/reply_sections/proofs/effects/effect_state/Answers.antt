-- `effect_state` meets its contract: by the byte. Assumes nothing.
use Rattle.std.specs.Prelude.{◌≡◌, ℕ, Bool, true, false, cond, not, eqb}
use Rattle.std.proofs.Common.{sym, ◌∙◌}
use Rattle.fields.specs.Fields.{field_at, flag_at}
use Rattle.reply_sections.specs.Effects.{effect_state}
use Rattle.reply_sections.proofs.effects.effect_state.Goals as goal

by_flag : (e f : Bool) → not e ≡ f → ◌≡◌ {A = ℕ} (cond f 3 4) (cond e 4 3)
by_flag true f h = simp (sym h)
by_flag false f h = simp (sym h)

pub returns-then-flag_at : goal.returns-then-flag_at
unfolding effect_state flag_at
returns-then-flag_at c = by_flag (eqb (field_at 1 c.args.section.now c.args.at) 0) true (sym c.flag_at.ensures ∙ c.if-flag_at.true)

pub returns-else-flag_at : goal.returns-else-flag_at
unfolding effect_state flag_at
returns-else-flag_at c = by_flag (eqb (field_at 1 c.args.section.now c.args.at) 0) false (sym c.flag_at.ensures ∙ c.if-flag_at.false)
