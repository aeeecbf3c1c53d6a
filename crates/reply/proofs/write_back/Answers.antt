-- `write_back` meets its contract: each section stands right behind the one before. Assumes nothing.
use mathlib.Core.Path.{refl}
use native.Mathlib.Omega.{arith}
use Rattle.reply_sections.specs.Effects.{effect_rows, length_effects_whole}
use Rattle.reply.specs.Reply.{rest_bytes, info_of, back_of}
use Rattle.reply.specs.Laws.{length_rest, length_info}
use Rattle.reply.specs.Writing.{written_first, written_more}
use Rattle.reply.proofs.write_back.Goals as goal

pub write_effects-requires : goal.write_effects-requires
write_effects-requires c = record { n_bound = c.requires.allowed.effects; section_len_bound = c.requires.section_len_bound; bytes_in_bounds = omega (arith, c.requires.p_in_bounds) }

pub write_rest-requires : goal.write_rest-requires
write_rest-requires c = record { allowed = c.requires.allowed; sinks_in_bounds = omega (arith, c.requires.p_in_bounds, c.write_effects.auto.out) }

pub write_info-requires : goal.write_info-requires
write_info-requires c =
    omega (arith, c.requires.p_in_bounds, c.write_effects.auto.out, c.write_rest.auto.out)

pub returns : goal.returns
unfolding back_of
returns c =
    let effects = written_first c.args.out.now c.args.at (effect_rows c.args.p.effects c.args.bytes c.args.section.now) (length_effects_whole _ _ _ c.requires.effects_value) (omega (arith, c.requires.p_in_bounds)) c.write_effects.ensures in
    let rest = written_more effects (rest_bytes c.args.p) refl (length_rest _) (omega (arith, c.requires.p_in_bounds)) c.write_rest.ensures in
    (written_more rest (info_of c.args.p c.args.elapsed) (omega arith) (length_info _ _) (omega (arith, c.requires.p_in_bounds)) c.write_info.ensures).stored
