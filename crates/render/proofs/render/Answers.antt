-- `render::render` meets its contract: the rooms are looked through from the first. Assumes nothing.
use Rattle.std.proofs.Common.{rules}
use Rattle.render.proofs.render.Goals as goal

pub render_from-requires : goal.render_from-requires
render_from-requires c = (c.requires.fact_1, c.requires.fact_2)
