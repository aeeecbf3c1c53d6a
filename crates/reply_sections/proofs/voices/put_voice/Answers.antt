-- `put_voice` meets its contract: the fields stand in the voice's rows. Assumes nothing.
use Rattle.reply_sections.specs.Voices.{status_at}
use Rattle.reply_sections.proofs.voices.put_voice.Goals as goal

pub returns : goal.returns
unfolding status_at
returns c = c.put_status.ensures
