-- `updates::routes::update_sinks` meets its contract: its rows are lent where they begin. Assumes nothing.
use Rattle.updates.specs.Update.{desk}
use Rattle.updates.specs.DeskLaws.{sinks_made}
use Rattle.updates.proofs.routes.update_sinks.Goals as goal

pub returns : goal.returns
returns c =
    let e = c.places_of-at.ensures.1 in
    sinks_made c.args.p c.args.d.now (desk c.args.words.now c.args.floats.now) e.sink_words_lem e.sink_floats_lem c.sinks.ensures.words_after c.sinks.ensures.floats_after
