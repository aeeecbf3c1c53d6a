-- `write_reply` meets its contract: the second part stands right behind the first. Its effects are read from their section. Assumes nothing.
use mathlib.Core.Path.{ap, sym, ◌∙◌}
use Prim.Native.Nat.{ℕ, ◌*◌, ◌/◌}
use native.Mathlib.Omega.{arith}
use lib.ListN.{length}
use Rattle.rows.specs.Rows.{put}
use Rattle.fields.specs.Fields.{section_of}
use Rattle.params.specs.Laws.{effects_whole}
use Rattle.reply.specs.Reply.{front_of, back_of, effects_section, reply_of}
use Rattle.reply.specs.Laws.{length_front, length_back, length_section_at_most, reply_parts}
use Rattle.reply.specs.Writing.{written_first, written_more}
use Rattle.reply.proofs.write_reply.Goals as goal

pub write_front-requires : goal.write_front-requires
write_front-requires c = record { allowed = c.requires.allowed; s_value = c.read-s.ensures.value; near = c.read-s.ensures.near; words_len = c.requires.words_len; longs_len = c.requires.longs_len; p_in_bounds = omega (arith, c.requires.expected_in_bounds, reply_parts c.args.p c.args.expected) }

pub write_back-requires : goal.write_back-requires
write_back-requires c =
    let s = c.read-s.result in record { allowed = c.requires.allowed; section_len_bound = omega (arith, ap (length {A = ℕ}) c.section-section.ensures, length_section_at_most c.args.input.now s.effects_at s.effects_size, c.read-s.ensures.near.effects_size); effects_value = ap (λ (b : ℕ). b / c.args.p.effects * c.args.p.effects) c.effects_bytes-bytes.ensures ∙ effects_whole c.args.p c.args.expected ∙ sym c.effects_bytes-bytes.ensures; p_in_bounds = omega (arith, c.requires.expected_in_bounds, reply_parts c.args.p c.args.expected, c.write_front.auto.out, c.effects_bytes-bytes.ensures, c.memory_pools.ensures) }

pub returns : goal.returns
unfolding reply_of effects_section
returns c =
    let parts = reply_parts c.args.p c.args.expected in
    let input = c.args.input.now in
    let section = c.section-section.ensures ∙ (λ k. section_of input (c.read-s.ensures.value k).effects_at (c.read-s.ensures.value k).effects_size) in
    let first = written_first c.args.out.now 0 (front_of c.args.p c.args.expected input c.args.words.now c.args.longs.now) (length_front _ _ _ _ _) (omega (arith, c.requires.expected_in_bounds, parts)) c.write_front.ensures in
    (written_more first (back_of c.args.p _ (effects_section input) c.args.elapsed) (omega (arith, c.memory_pools.ensures)) (length_back _ _ _ _) (omega (arith, c.requires.expected_in_bounds, parts))
    (c.write_back.ensures ∙ ap (put _ _) (λ k. back_of c.args.p (c.effects_bytes-bytes.ensures k) (section k) c.args.elapsed))
    ).stored
