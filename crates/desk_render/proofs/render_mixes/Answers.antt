-- `desk_render::render_mixes` meets its contract: the desk is the state's, and the floats are those of mixes and destinations. Assumes nothing.
use Rattle.desk_render.specs.Laws.{mixed}
use Rattle.desk_render.proofs.render_mixes.Goals as goal

pub returns : goal.returns
returns c =
    mixed c.places_of-at.ensures.1 c.requires.fact_1 c.desk_of-desk.ensures c.requires.fact_2 c.args.buffers.now c.render_mixes.ensures
