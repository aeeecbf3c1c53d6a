-- `voice_records::channel_id` meets its contract: the minimum is the definition's. Assumes nothing.
use Rattle.std.proofs.Common.{arith}
use Rattle.voice_records.specs.Record.{channel_id}
use Rattle.voice_records.proofs.numbers.channel_id.Goals as goal

pub returns : goal.returns
unfolding channel_id
returns c = omega arith
