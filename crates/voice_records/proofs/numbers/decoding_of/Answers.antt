-- `voice_records::decoding_of` meets its contract: each way out is a case of the revision. Assumes nothing.
use Rattle.voice_records.specs.Record.{decoding_of}
use Rattle.voice_records.specs.Made.{since_new, since_old}
use Rattle.voice_records.proofs.numbers.decoding_of.Goals as goal

pub returns-then-revision-ge5 : goal.returns-then-revision-ge5
unfolding decoding_of
returns-then-revision-ge5 c = since_new 5 _ _ c.if-revision-ge5.true c.u16_at.ensures

pub returns-else-revision-ge5 : goal.returns-else-revision-ge5
unfolding decoding_of
returns-else-revision-ge5 c = since_old 5 _ _ _ c.if-revision-ge5.false
