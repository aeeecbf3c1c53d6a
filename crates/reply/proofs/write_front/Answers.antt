-- `write_front` meets its contract: each section stands right behind the one before. Assumes nothing.
use mathlib.Core.Path.{refl, ap, ◌∙◌}
use native.Mathlib.Omega.{arith}
use Rattle.rows.specs.Rows.{put}
use Rattle.params.specs.Laws.{pools_small}
use Rattle.reply_sections.specs.Pools.{pools_bytes}
use Rattle.reply_sections.specs.Voices.{voices_bytes, length_voices}
use Rattle.reply.specs.Reply.{header_of, pools_of_input, front_of}
use Rattle.reply.specs.Laws.{length_header, length_pools_of}
use Rattle.reply.specs.Writing.{written_first, written_more}
use Rattle.reply.proofs.write_front.Goals as goal

pub write_pools-requires : goal.write_pools-requires
write_pools-requires c = record { n_bound = omega (arith, c.memory_pools-pools.ensures, pools_small c.args.p c.requires.allowed); behavior_bound = c.requires.near.behavior_size; n_in_bounds = omega (arith, c.write_header.auto.out, c.memory_pools-pools.ensures, c.requires.p_in_bounds) }

pub write_voices-requires : goal.write_voices-requires
write_voices-requires c = record { words_len = c.requires.words_len; longs_len = c.requires.longs_len; n_in_bounds = omega (arith, c.write_pools.auto.out, c.write_header.auto.out, c.memory_pools-pools.ensures, c.requires.p_in_bounds) }

pub returns : goal.returns
unfolding front_of pools_of_input
returns c =
    let first = written_first c.args.out.now 0 (header_of c.args.p c.args.expected) (length_header _ _) (omega (arith, c.requires.p_in_bounds)) c.write_header.ensures in
    let second = written_more first (pools_of_input c.args.p c.args.input.now) refl (length_pools_of _ _) (omega (arith, c.requires.p_in_bounds)) (c.write_pools.ensures ∙ ap (put _ _) (λ k. pools_bytes (c.memory_pools-pools.ensures k) (c.requires.s_value k).behavior_size (c.requires.s_value k).pools_size c.args.input.now)) in
    (written_more second (voices_bytes c.args.p.voices c.args.words.now c.args.longs.now) (omega (arith, c.memory_pools-pools.ensures)) (length_voices _ _ _) (omega (arith, c.requires.p_in_bounds)) c.write_voices.ensures
    ).stored
