-- `desk_updates::mixes` meets its contract: the rows that are lent come back in their places. Assumes nothing.
use Rattle.desk_updates.specs.Laws.{mixes_lent_lem, mix_words_back, mix_floats_back}
use Rattle.desk_updates.proofs.mixes.Goals as goal

pub update_mixes-requires : goal.update_mixes-requires
update_mixes-requires c =
    mixes_lent_lem c.args.revision c.args.d.now c.args.n c.args.a c.args.words.now c.args.c c.args.floats.now c.requires.inside.0 c.requires.inside.1 c.requires.sized

pub returns : goal.returns
returns c = record { words_after = mix_words_back c.args.revision c.args.d.now c.args.n c.args.a c.args.words.now c.args.c c.args.floats.now c.requires.inside.0 c.requires.inside.1 c.requires.sized c.update_mixes.ensures.words_after; floats_after = mix_floats_back c.args.revision c.args.d.now c.args.n c.args.a c.args.words.now c.args.c c.args.floats.now c.requires.inside.0 c.requires.inside.1 c.requires.sized c.update_mixes.ensures.floats_after }
