-- `cabi::jeqlluna_render_section` meets its contract. Assumes nothing.
use Rattle.cabi.proofs.jeqlluna_render_section.Goals as goal

pub returns : goal.returns
returns c =
    rw c.section_told.ensures c.render_section.ensures
