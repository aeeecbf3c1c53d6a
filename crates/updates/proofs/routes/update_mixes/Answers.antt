-- `updates::routes::update_mixes` meets its contract: its rows are lent where they begin. Assumes nothing.
use native.Mathlib.Omega.{arith}
use Rattle.updates.specs.Update.{desk}
use Rattle.updates.specs.DeskLaws.{mixes_made, mixes_found}
use Rattle.updates.proofs.routes.update_mixes.Goals as goal

pub mixes-requires : goal.mixes-requires
mixes-requires c =
    let e = c.places_of-at.ensures.1 in record { inside = (omega (arith, e.mixes, e.mix_words_lem, c.requires.words), omega (arith, e.mixes, e.mix_floats_lem, c.requires.floats)); sized = mixes_found c.args.p c.args.d.now (desk c.args.words.now c.args.floats.now) e.mixes e.mix_words_lem e.mix_floats_lem c.requires }

pub returns : goal.returns
returns c =
    let e = c.places_of-at.ensures.1 in
    mixes_made c.args.p c.args.d.now (desk c.args.words.now c.args.floats.now) c.revision_number-revision.ensures e.mixes e.mix_words_lem e.mix_floats_lem c.mixes.ensures.words_after c.mixes.ensures.floats_after
