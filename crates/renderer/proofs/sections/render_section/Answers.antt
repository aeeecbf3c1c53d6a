-- `renderer::sections::render_section` meets its contract: each way out is the first question that is answered "no". Assumes nothing.
use Rattle.whole.specs.Whole.{whole_facts}
use Rattle.renderer.specs.Made.{passed}
use Rattle.renderer.proofs.Asked.{section_four, section_thirteen, section_five, section_fourteen, section_seven}
use Rattle.renderer.proofs.Asked.{floats_asked, section_asked, section_done_lem}
use Rattle.renderer.proofs.sections.render_section.Goals as goal

pub returns-then-not-whole : goal.returns-then-not-whole
returns-then-not-whole c = section_four _ _ _ _ _ c.whole.ensures c.if-not-whole.true-raw

pub returns-then-not-laid : goal.returns-then-not-laid
returns-then-not-laid c =
    section_thirteen _ _ _ _ _ c.whole.ensures c.if-not-whole.false-raw c.laid.ensures c.if-not-laid.true-raw

pub returns-then-not-near : goal.returns-then-not-near
returns-then-not-near c =
    section_five _ _ _ _ _ c.whole.ensures c.if-not-whole.false-raw c.laid.ensures c.if-not-laid.false-raw
    c.near.ensures c.if-not-near.true-raw

pub returns-then-not-renders_allowed : goal.returns-then-not-renders_allowed
returns-then-not-renders_allowed c =
    section_fourteen _ _ _ _ _ c.whole.ensures c.if-not-whole.false-raw c.laid.ensures c.if-not-laid.false-raw
    c.near.ensures c.if-not-near.false-raw c.renders_allowed.ensures c.if-not-renders_allowed.true-raw

pub load-p-requires : goal.load-p-requires
load-p-requires c =
    (whole_facts _ (passed c.whole.ensures c.if-not-whole.false-raw)).front

pub floats_for-requires : goal.floats_for-requires
floats_for-requires c = let both = floats_asked _ c.whole.ensures c.if-not-whole.false-raw c.load-p.ensures
    c.renders_allowed.ensures c.if-not-renders_allowed.false-raw in record { fact_1 = both.0; fact_2 = both.1 }

pub returns-then-frames-floats_for : goal.returns-then-frames-floats_for
returns-then-frames-floats_for c =
    section_seven _ _ _ _ _ c.whole.ensures c.if-not-whole.false-raw c.laid.ensures c.if-not-laid.false-raw
    c.near.ensures c.if-not-near.false-raw c.renders_allowed.ensures c.if-not-renders_allowed.false-raw
    c.load-p.ensures c.floats_for.ensures c.if-frames-floats_for.true

pub render_all-rounds-requires : goal.render_all-rounds-requires
render_all-rounds-requires c = let both = section_asked _ _ _ _ _ c.whole.ensures c.if-not-whole.false-raw c.laid.ensures c.if-not-laid.false-raw
    c.near.ensures c.if-not-near.false-raw c.renders_allowed.ensures c.if-not-renders_allowed.false-raw
    c.load-p.ensures c.floats_for.ensures c.if-frames-floats_for.false in record { fact_1 = both.0; fact_2 = both.1 }

pub returns : goal.returns
returns c =
    section_done_lem _ _ _ _ _ c.whole.ensures c.if-not-whole.false-raw c.laid.ensures c.if-not-laid.false-raw
    c.near.ensures c.if-not-near.false-raw c.renders_allowed.ensures c.if-not-renders_allowed.false-raw
    c.load-p.ensures c.floats_for.ensures c.if-frames-floats_for.false c.render_all-rounds.ensures
