-- `sinks::put_device` meets its contract: each turn stores an input. Assumes nothing.
use Rattle.std.proofs.Common.{ℕ, min, ap, ◌∙◌, arith}
use Rattle.rows.specs.Rows.{put}
use Rattle.rows.specs.Tables.{table_begin, table_step, table_end}
use Rattle.desk.specs.Records.{word_of}
use Rattle.desk.proofs.SinkRow.{device_made}
use Rattle.desk.proofs.sinks.put_device.Goals as goal

pub loop-k-init : goal.loop-k-init
loop-k-init c = table_begin _ _ _ _ (omega arith)

pub loop-k-preserved : goal.loop-k-preserved
loop-k-preserved c = table_step c.loop-k.invariant (omega arith) (omega arith) (c.from.ensures ∙ c.byte_at.ensures)

pub returns : goal.returns
returns c =
    let row = table_end c.loop-k.invariant (omega arith) in
    let used = c.from-used.ensures ∙ ap word_of c.flag_at.ensures in
    let count = c.min-count.ensures ∙ ap (λ (n : ℕ). min n 6) c.u32_at.ensures in
    let given = c.from-given.ensures ∙ ap word_of c.flag_at-2.ensures in
    c.copy_in.ensures ∙ ap (put _ _) (device_made c.args.p.now used count given row)
