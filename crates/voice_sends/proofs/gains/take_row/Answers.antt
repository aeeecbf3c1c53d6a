-- `gains::take_row` meets its contract: the row that is copied out is the one that is put. Assumes nothing.
use mathlib.Core.Path.{ap, ◌∙◌}
use Rattle.rows.specs.Rows.{put}
use Rattle.voice_sends.specs.Sending.{taken}
use Rattle.voice_sends.proofs.gains.take_row.Goals as goal

pub returns : goal.returns
unfolding taken
returns c = c.copy_in.ensures ∙ ap (put _ _) c.copy_out.ensures
