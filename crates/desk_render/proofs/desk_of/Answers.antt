-- `desk_render::desk_of` meets its contract: the rows that are lent are those of mixes, splitters and destinations. Assumes nothing.
use mathlib.Core.Path.{refl}
use Rattle.desk_render.specs.Laws.{mixes_is, lists_is, mixes_lent_lem, lists_lent_lem}
use Rattle.desk_render.proofs.desk_of.Goals as goal

pub returns : goal.returns
returns c =
    let e = c.requires.places in
    record { mixes = e.mixes; mix_words = mixes_is e c.args.words.now; splitters = refl; destinations = refl; list_words = lists_is e c.args.words.now }

pub invariant_of-result : goal.invariant_of-result
invariant_of-result c = record { whole = mixes_lent_lem c.requires.places c.args.words.now c.requires.mixes }

pub invariant_of-result-2 : goal.invariant_of-result-2
invariant_of-result-2 c = record { whole = lists_lent_lem c.requires.places c.args.words.now c.requires.lists }
