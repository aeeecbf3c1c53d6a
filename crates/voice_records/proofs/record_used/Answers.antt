-- `voice_records::record_used` meets its contract: the flag is what its reader gives. Assumes nothing.
use Rattle.voice_records.specs.Record.{record_used}
use Rattle.voice_records.proofs.record_used.Goals as goal

pub returns : goal.returns
unfolding record_used
returns c = c.flag_at.ensures
