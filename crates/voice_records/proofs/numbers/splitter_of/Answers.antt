-- `voice_records::splitter_of` meets its contract: each way out is a case of the revision. Assumes nothing.
use Rattle.voice_records.specs.Record.{splitter_of}
use Rattle.voice_records.specs.Made.{since_new, since_old}
use Rattle.voice_records.proofs.numbers.splitter_of.Goals as goal

pub returns-then-revision-ge2 : goal.returns-then-revision-ge2
unfolding splitter_of
returns-then-revision-ge2 c = since_new 2 _ _ c.if-revision-ge2.true c.u32_at.ensures

pub returns-else-revision-ge2 : goal.returns-else-revision-ge2
unfolding splitter_of
returns-else-revision-ge2 c = since_old 2 _ _ _ c.if-revision-ge2.false
