-- `put_desk` meets its contract: each kind stands right behind the one before. Assumes nothing.
use Rattle.opened.specs.Written.{desk_words_written}
use Rattle.opened.proofs.words.put_desk.Goals as goal

pub returns : goal.returns
returns c =
    desk_words_written _ _ _ _ _ _ c.requires
    c.put_mixes.ensures c.fill.ensures c.fill-2.ensures c.put_destinations.ensures
