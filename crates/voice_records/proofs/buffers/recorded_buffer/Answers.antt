-- `voice_records::recorded_buffer` meets its contract: each way out is a case of the two tests. Assumes nothing.
use Rattle.std.proofs.Common.{◌≡◌, Bool, true, false, cond}
use Rattle.voice_records.specs.Record.{recorded_buffer}
use Rattle.voice_records.specs.Made.{buffer_tried, buffer_sent}
use Rattle.voice_records.proofs.buffers.recorded_buffer.Goals as goal
use Rattle.voice_records.proofs.buffers.recorded_buffer.Goals.{After-offsets_valid}

tried : (c : After-offsets_valid) (valid : Bool) → c.offsets_valid.result ≡ valid
    → cond valid c.parse-wb.result c.args.old ≡ recorded_buffer c.args.format c.args.p.now c.args.b c.args.old
tried c valid e =
    buffer_tried valid _ _ _ _ c.section-w.ensures c.byte_at.ensures c.if-byte_at-ne0.false c.parse-wb.ensures c.offsets_valid.ensures e

pub returns-then-byte_at-ne0 : goal.returns-then-byte_at-ne0
returns-then-byte_at-ne0 c = buffer_sent _ _ _ _ c.section-w.ensures c.byte_at.ensures c.if-byte_at-ne0.true

pub returns-then-offsets_valid : goal.returns-then-offsets_valid
returns-then-offsets_valid c = tried (goal.at.returns-then-offsets_valid c).After-offsets_valid true c.if-offsets_valid.true

pub returns-else-offsets_valid : goal.returns-else-offsets_valid
returns-else-offsets_valid c = tried (goal.at.returns-else-offsets_valid c).After-offsets_valid false c.if-offsets_valid.false
