-- `voice_records::renew` meets its contract: each way out is a case of the test. Assumes nothing.
use Rattle.voice_records.specs.Record.{renewed}
use Rattle.voice_records.proofs.renew.Goals as goal

pub returns-then-new : goal.returns-then-new
unfolding renewed
returns-then-new c = rw c.if-new.true c.new_voice.ensures

pub returns-else-new : goal.returns-else-new
unfolding renewed
returns-else-new c = rw c.if-new.false
