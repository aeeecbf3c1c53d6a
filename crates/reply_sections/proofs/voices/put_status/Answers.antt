-- `put_status` meets its contract: by whether the voice is in use, and fresh. Assumes nothing.
use mathlib.Core.Path.{ap, sym, ◌∙◌}
use Rattle.rows.specs.Rows.{put}
use Rattle.reply_sections.specs.Bytes.{zeros}
use Rattle.reply_sections.specs.Voices.{status_silent, status_heard}
use Rattle.reply_sections.proofs.voices.put_status.Goals as goal

pub returns-then-fresh-ne0 : goal.returns-then-fresh-ne0
unfolding zeros
returns-then-fresh-ne0 c = c.fill.ensures ∙ ap (put _ _) (sym (status_silent _ _ _ _ c.if-fresh-ne0.either))

pub returns-else-fresh-ne0 : goal.returns-else-fresh-ne0
returns-else-fresh-ne0 c =
    c.put_heard.ensures ∙ ap (put _ _) (sym (status_heard _ _ _ _ c.if-fresh-ne0.false.0 c.if-fresh-ne0.false.1))
