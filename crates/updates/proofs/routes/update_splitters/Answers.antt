-- `updates::routes::update_splitters` meets its contract: its rows are lent where they begin. Assumes nothing.
use Rattle.updates.specs.Update.{desk}
use Rattle.updates.specs.DeskLaws.{lists_made, lists_size_lem}
use Rattle.updates.proofs.routes.update_splitters.Goals as goal

pub returns : goal.returns
returns c =
    let k = desk c.args.words.now c.args.floats.now in
    let e = c.places_of-at.ensures.1 in record { floats_after = lists_made c.args.p c.args.d.now k e.list_words_lem e.destination_floats_lem c.lists.ensures.words_after c.lists.ensures.floats_after; value = (lists_size_lem c.args.p c.args.d.now k e.list_words_lem e.destination_floats_lem c.lists.ensures.value.0, c.lists.ensures.value.1) }
