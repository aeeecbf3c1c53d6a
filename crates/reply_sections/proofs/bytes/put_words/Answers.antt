-- `put_words` meets its contract: a row of four bytes is put at each turn. Assumes nothing.
use native.Mathlib.Omega.{arith}
use Rattle.rows.specs.Tables.{join_begin, join_room, join_step, join_end}
use Rattle.fields.specs.Writes.{length_bytes}
use Rattle.reply_sections.specs.Bytes.{words_bytes}
use Rattle.reply_sections.proofs.bytes.put_words.Goals as goal

pub loop-k-init : goal.loop-k-init
loop-k-init c = join_begin _ _ _ _ _ (omega arith)

pub put_u32-requires : goal.put_u32-requires
put_u32-requires c = join_room c.loop-k.invariant (λ i. length_bytes 4 _) (omega arith) (omega arith)

pub loop-k-preserved : goal.loop-k-preserved
loop-k-preserved c =
    join_step c.loop-k.invariant (λ i. length_bytes 4 _) (omega arith) (omega arith) c.put_u32.ensures

pub returns : goal.returns
unfolding words_bytes
returns c = join_end c.loop-k.invariant (λ i. length_bytes 4 _) (omega arith)
