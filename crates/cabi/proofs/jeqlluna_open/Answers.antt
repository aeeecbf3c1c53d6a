-- `cabi::jeqlluna_open` meets its contract. Assumes nothing.
use Rattle.cabi.proofs.jeqlluna_open.Goals as goal

pub returns : goal.returns
returns c = rw (c.open_told.ensures, ← c.parse.ensures) c.«open».ensures
