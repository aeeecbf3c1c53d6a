-- `voice_rows::play_of` meets its contract: any word above 2 is Paused. Assumes nothing.
use Rattle.voice_rows.specs.VoiceRow.{play_rest}
use borrow.Author.Rules.{rules}
use Rattle.voice_rows.proofs.voice_row.play_of.Goals as goal

pub returns-in_default : goal.returns-in_default
returns-in_default c = search (rules, play_rest)
