-- `renderer::render` meets its contract: each way out is the first question that is answered "no". Assumes nothing.
use Rattle.whole.specs.Whole.{whole_facts}
use Rattle.render.specs.FromWhole.{whole_playing}
use Rattle.renderer.specs.Made.{passed, render_four, render_thirteen, render_five, ascending, render_seven, render_done_lem}
use Rattle.renderer.proofs.render.Goals as goal

pub returns-then-not-whole : goal.returns-then-not-whole
returns-then-not-whole c = render_four _ _ _ _ c.whole.ensures c.if-not-whole.true-raw

pub returns-then-not-laid : goal.returns-then-not-laid
returns-then-not-laid c =
    render_thirteen _ _ _ _ c.whole.ensures c.if-not-whole.false-raw c.laid.ensures c.if-not-laid.true-raw

pub returns-then-not-near : goal.returns-then-not-near
returns-then-not-near c =
    render_five _ _ _ _ c.whole.ensures c.if-not-whole.false-raw c.laid.ensures c.if-not-laid.false-raw
    c.near.ensures c.if-not-near.true-raw

pub load-p-requires : goal.load-p-requires
load-p-requires c =
    (whole_facts _ (passed c.whole.ensures c.if-not-whole.false-raw)).front

pub returns-then-frames-p : goal.returns-then-frames-p
returns-then-frames-p c =
    render_seven _ _ _ _ c.whole.ensures c.if-not-whole.false-raw c.laid.ensures c.if-not-laid.false-raw
    c.near.ensures c.if-not-near.false-raw c.load-p.ensures c.if-frames-p.true

pub render-rounds-requires : goal.render-rounds-requires
render-rounds-requires c =
    let laid = ascending _ _ c.laid.ensures c.if-not-laid.false-raw c.near.ensures c.if-not-near.false-raw in
    let whole = whole_facts _ (passed c.whole.ensures c.if-not-whole.false-raw) in record { fact_1 = rw c.load-p.ensures (whole_playing _ whole _ _ laid); fact_2 = c.if-frames-p.false }

pub returns : goal.returns
returns c =
    render_done_lem _ _ _ _ c.whole.ensures c.if-not-whole.false-raw c.laid.ensures c.if-not-laid.false-raw
    c.near.ensures c.if-not-near.false-raw c.load-p.ensures c.if-frames-p.false c.render-rounds.ensures
