-- `cabi::jeqlluna_render` meets its contract. Assumes nothing.
use Rattle.cabi.proofs.jeqlluna_render.Goals as goal

pub returns : goal.returns
returns c = rw c.render_told.ensures c.render.ensures
