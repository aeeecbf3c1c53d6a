use Rattle.rows.specs.Tables.{Joining}
use Rattle.reply_sections.specs.Effects.{effect_at}
use Rattle.reply_sections.proofs.effects.put_effects.Given as goal

abbrev pub invariant-loop-i : goal.invariant-loop-i
invariant-loop-i l = Joining l.initial.out l.at l.n l.stride_out (effect_at l.stride_in l.stride_out l.section) l.out l.i
