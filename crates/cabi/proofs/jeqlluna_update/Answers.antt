-- `cabi::jeqlluna_update` meets its contract. Assumes nothing.
use Rattle.cabi.proofs.jeqlluna_update.Goals as goal

pub returns : goal.returns
returns c = rw c.update_told.ensures c.update.ensures
