-- `voice_records::flush_of` meets its contract: each way out is a case of the revision. Assumes nothing.
use Rattle.voice_records.specs.Record.{flush_of}
use Rattle.voice_records.specs.Made.{since_new, since_old}
use Rattle.voice_records.proofs.numbers.flush_of.Goals as goal

pub returns-then-revision-ge5 : goal.returns-then-revision-ge5
unfolding flush_of
returns-then-revision-ge5 c = since_new 5 _ _ c.if-revision-ge5.true (rw c.byte_at.ensures)

pub returns-else-revision-ge5 : goal.returns-else-revision-ge5
unfolding flush_of
returns-else-revision-ge5 c = since_old 5 _ _ _ c.if-revision-ge5.false
