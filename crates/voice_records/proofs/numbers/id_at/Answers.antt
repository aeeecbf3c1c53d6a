-- `voice_records::id_at` meets its contract: the field is what its reader gives. Assumes nothing.
use Rattle.voice_records.specs.Record.{id_at}
use Rattle.voice_records.proofs.numbers.id_at.Goals as goal

pub returns : goal.returns
unfolding id_at
returns c = cc
