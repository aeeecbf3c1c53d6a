-- `voice_rows::store_floats` meets its contract: the copied row is the one made. Assumes nothing.
use mathlib.Core.Path.{ap, ◌∙◌}
use Rattle.rows.specs.Rows.{put}
use Rattle.voice_rows.specs.VoiceRow.{floats_of}
use Rattle.voice_rows.proofs.voice_row.store_floats.Goals as goal

pub returns : goal.returns
unfolding floats_of
returns c = c.copy_in.ensures ∙ ap (put _ _) c.floats_of.ensures
