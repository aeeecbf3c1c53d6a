-- `renderer::mix_order` meets its contract. Assumes nothing.
use Rattle.whole.specs.Whole.{whole_facts}
use Rattle.renderer.specs.Made.{passed, order_four, order_done}
use Rattle.renderer.proofs.mix_order.Goals as goal

pub returns-then-not-whole : goal.returns-then-not-whole
returns-then-not-whole c = order_four _ c.whole.ensures c.if-not-whole.true-raw

pub load-requires : goal.load-requires
load-requires c = (whole_facts _ (passed c.whole.ensures c.if-not-whole.false-raw)).front

pub mix_order-requires : goal.mix_order-requires
mix_order-requires c =
    let w = whole_facts _ (passed c.whole.ensures c.if-not-whole.false-raw) in
    rw c.load.ensures (record { fact_1 = w.allowed; fact_2 = w.sized.words; fact_3 = w.mixes; fact_4 = w.lists })

pub returns : goal.returns
returns c = order_done _ c.whole.ensures c.if-not-whole.false-raw c.load.ensures c.mix_order.ensures
