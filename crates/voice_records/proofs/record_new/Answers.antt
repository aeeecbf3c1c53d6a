-- `voice_records::record_new` meets its contract: the flag is what its reader gives. Assumes nothing.
use Rattle.voice_records.specs.Record.{record_new}
use Rattle.voice_records.proofs.record_new.Goals as goal

pub returns : goal.returns
unfolding record_new
returns c = c.flag_at.ensures
