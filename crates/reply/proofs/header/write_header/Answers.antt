-- `write_header` meets its contract: sixteen words that fit 32 bits. Assumes nothing.
use mathlib.Core.Path.{ap, ◌∙◌}
use mathlib.Core.List.{List}
use Prim.Native.Nat.{ℕ}
use native.Mathlib.Omega.{arith}
use Rattle.rows.specs.Rows.{put}
use Rattle.params.specs.Laws.{effects_fit, info_small, pools_small, reply_below}
use Rattle.reply_sections.specs.Bytes.{words_bytes}
use Rattle.reply.specs.Reply.{header_from, header_of}
use Rattle.reply.proofs.header.write_header.Goals as goal

pub overflow_cast-effects : goal.overflow_cast-effects
overflow_cast-effects c =
    omega (arith, effects_fit c.args.p c.args.expected)

pub overflow_cast-info : goal.overflow_cast-info
overflow_cast-info c =
    omega (arith, info_small c.args.p)

pub overflow_cast-total : goal.overflow_cast-total
overflow_cast-total c =
    omega (arith, reply_below c.args.p c.args.expected c.requires.allowed (omega arith))

pub header_words-requires : goal.header_words-requires
header_words-requires c = record { allowed = c.requires.allowed; pools_bound = omega (arith, pools_small c.args.p c.requires.allowed) }

pub returns : goal.returns
unfolding header_of
returns c =
    c.put_words.ensures
    ∙ ap (λ (ws : List ℕ). put c.args.out.now 0 (words_bytes ws))
    (c.header_words.ensures
    ∙ (λ k. header_from c.args.p (c.memory_pools-pools.ensures k) (c.effects_bytes-effects.ensures k) (c.render_info_size-info.ensures k) (c.reply_length-total.ensures k)))
