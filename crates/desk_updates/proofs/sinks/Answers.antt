-- `desk_updates::sinks` meets its contract: the rows that are lent come back in their places. Assumes nothing.
use Rattle.desk_updates.specs.Laws.{sink_words_back, sink_floats_back}
use Rattle.desk_updates.proofs.sinks.Goals as goal

pub returns : goal.returns
returns c = record { words_after = sink_words_back c.args.d.now c.args.n c.args.a c.args.words.now c.args.c c.args.floats.now c.requires.0 c.requires.1 c.requires.2 c.update_sinks.ensures.words_after; floats_after = sink_floats_back c.args.d.now c.args.n c.args.a c.args.words.now c.args.c c.args.floats.now c.requires.0 c.requires.1 c.requires.2 c.update_sinks.ensures.floats_after }
