-- `voice_records::update_voice` meets its contract: the record's fields set in what is there to set them in. Assumes nothing.
use Rattle.voice_records.specs.Record.{recorded}
use Rattle.voice_records.proofs.update_voice.Goals as goal

pub returns : goal.returns
unfolding recorded
returns c = cc
