-- `put_heard` meets its contract: eight bytes, four, and four zeros. Assumes nothing.
use mathlib.Core.List.{◌++◌}
use native.Mathlib.Omega.{arith}
use lib.ListN.{length-append}
use Rattle.rows.specs.Rows.{put_more}
use Rattle.fields.specs.Fields.{bytes_of}
use Rattle.fields.specs.Writes.{length_bytes}
use Rattle.reply_sections.specs.Bytes.{zeros, length_zeros}
use Rattle.reply_sections.specs.Voices.{heard_of}
use Rattle.reply_sections.proofs.voices.put_heard.Goals as goal

pub returns : goal.returns
unfolding heard_of zeros
returns c =
    let played = bytes_of 8 c.args.played in
    let consumed = bytes_of 4 c.args.consumed in
    put_more c.args.out.now c.args.at 12 (played ++ consumed) (zeros 4) (rw (length-append, length_bytes, length_bytes)) (omega (arith, length_zeros 4))
    (put_more c.args.out.now c.args.at 8 played consumed (length_bytes 8 _) (omega (arith, length_bytes 4 c.args.consumed)) c.put_u64.ensures c.put_u32.ensures)
    c.fill.ensures
