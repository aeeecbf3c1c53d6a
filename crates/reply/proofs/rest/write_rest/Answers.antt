-- `write_rest` meets its contract: three stretches of zeros are one. Assumes nothing.
use mathlib.Core.Path.{ap, ◌∙◌}
use Rattle.rows.specs.Rows.{put}
use Rattle.reply_sections.specs.Bytes.{zeros}
use Rattle.reply.specs.Laws.{rest_zeros}
use Rattle.reply.proofs.rest.write_rest.Goals as goal

pub returns : goal.returns
unfolding zeros
returns c = c.fill.ensures ∙ ap (put _ _) (rest_zeros _)
