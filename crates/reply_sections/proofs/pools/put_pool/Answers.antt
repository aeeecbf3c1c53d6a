-- `put_pool` meets its contract: the state that was granted, and zeros. Assumes nothing.
use mathlib.Core.Path.{ap, ◌∙◌}
use Prim.Native.Nat.{ℕ}
use native.Mathlib.Omega.{arith}
use Rattle.rows.specs.Rows.{put}
use Rattle.fields.specs.Fields.{bytes_of}
use Rattle.reply_sections.specs.Bytes.{zeros, put_padded}
use Rattle.reply_sections.specs.Pools.{granted, pool_row}
use Rattle.reply_sections.proofs.pools.put_pool.Goals as goal

pub returns : goal.returns
unfolding pool_row zeros
returns c =
    put_padded c.args.out.now c.args.at 4 _ 12 (omega arith)
    (c.put_u32.ensures ∙ ap (λ (v : ℕ). put c.args.out.now c.args.at (bytes_of 4 v)) (c.grant-state.ensures ∙ ap granted c.pool_word.ensures))
    c.fill.ensures
