-- `updates::write_reply` meets its contract: the rows that are lent are the voices. Assumes nothing.
use mathlib.Core.Path.{◌∙◌}
use Prim.Native.Nat.{◌*◌}
use lib.ListN.{get_or}
use Rattle.rows.specs.Rows.{put}
use Rattle.rows.specs.Lent.{part_cut}
use Rattle.reply.specs.Reply.{reply_of}
use Rattle.updates.proofs.write_reply.Goals as goal

pub returns : goal.returns
returns c =
    c.write_reply.ensures
    ∙ (λ i.
    put c.args.reply.now 0
    (reply_of c.args.p c.args.expected c.args.input.now (get_or c.args.s.now.longs.now 0 0)
    (part_cut c.args.s.now.words.now 10 (c.args.p.voices * 58) i) (part_cut c.args.s.now.longs.now 1 (c.args.p.voices * 14) i)))
