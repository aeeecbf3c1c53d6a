-- `desk_updates::lists` meets its contract: the rows that are lent come back in their places. Assumes nothing.
use Rattle.desk_updates.specs.Laws.{list_at_back, list_words_back, list_floats_back}
use Rattle.desk_updates.proofs.lists.Goals as goal

pub returns : goal.returns
returns c =
    let e = c.update_splitters.ensures.0 in record { value = (list_at_back c.args.d.now c.args.ns c.args.nd c.args.a c.args.words.now c.args.c c.args.floats.now c.requires.0 c.requires.1 c.requires.2 c.requires.3 e, c.update_splitters.ensures.1); words_after = list_words_back c.args.d.now c.args.ns c.args.nd c.args.a c.args.words.now c.args.c c.args.floats.now c.requires.0 c.requires.1 c.requires.2 c.requires.3 e; floats_after = list_floats_back c.args.d.now c.args.ns c.args.nd c.args.a c.args.words.now c.args.c c.args.floats.now c.requires.0 c.requires.1 c.requires.2 c.requires.3 e }
