-- `sending::by_splitter` meets its contract: the destinations that are lent come back in their place. Assumes nothing.
use Rattle.rows.specs.Lent.{length_lent}
use Rattle.sending.specs.Routes.{by_splitter_back}
use Rattle.sending.proofs.by_splitter.Goals as goal

pub by_splitter-requires : goal.by_splitter-requires
by_splitter-requires c = length_lent _ _ _ c.requires

pub returns : goal.returns
returns c =
    by_splitter_back c.args.desk.now.lists.nd c.args.b c.args.floats.now c.args.buffers.now c.requires _ _ _ _ _ _ _ _ c.by_splitter.ensures
