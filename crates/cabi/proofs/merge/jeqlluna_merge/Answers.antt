-- `cabi::merge::jeqlluna_merge` meets its contract. Assumes nothing.
use Rattle.cabi.proofs.Told.{merge_seen_lem}
use Rattle.cabi.proofs.merge.jeqlluna_merge.Goals as goal

pub returns : goal.returns
returns c =
    rw (c.merge_told.ensures, merge_seen_lem, ← c.parse.ensures) c.merge.ensures
