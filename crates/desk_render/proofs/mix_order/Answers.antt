-- `desk_render::mix_order` meets its contract: the desk is the state's. Assumes nothing.
use Rattle.desk_render.specs.Laws.{ordered}
use Rattle.desk_render.proofs.mix_order.Goals as goal

pub returns : goal.returns
returns c = ordered c.desk_of-desk.ensures c.list_order.ensures
