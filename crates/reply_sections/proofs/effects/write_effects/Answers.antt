-- `write_effects` meets its contract: the shares are the quotients. Assumes nothing.
use mathlib.Core.Path.{ap, sym, ◌∙◌}
use native.Mathlib.Omega.{arith}
use native.Mathlib.Nat.{div-le_self, mul-div-le}
use lib.ListN.{length}
use Rattle.rows.specs.Rows.{put}
use Rattle.reply_sections.specs.Bytes.{put_none}
use Rattle.reply_sections.specs.Effects.{effect_rows, effects_nil}
use Rattle.reply_sections.proofs.effects.write_effects.Goals as goal

pub put_effects-requires : goal.put_effects-requires
put_effects-requires c = record { n_bound = c.requires.n_bound; stride_in_bound = omega (arith, div-le_self (length c.args.section.now) c.args.n); stride_out_in_bounds = omega (arith, mul-div-le c.args.bytes c.args.n) }

pub returns-then-n-gt0 : goal.returns-then-n-gt0
unfolding effect_rows
returns-then-n-gt0 c = c.put_effects.ensures

pub returns-else-n-gt0 : goal.returns-else-n-gt0
returns-else-n-gt0 c = put_none _ _ (omega arith) ∙ ap (put _ _) (sym (effects_nil _ _ _ (omega arith)))
