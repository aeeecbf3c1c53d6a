-- `renders::render_all` meets its contract: `Sectioning` holds after each render. Assumes nothing.
use mathlib.Core.Path.{refl}
use native.Mathlib.Omega.{arith}
use borrow.Author.Rules.{rules}
use Rattle.renders.proofs.Loop.{sectioning_begin, sectioning_left, next_asked, lent_room, sectioning_returned, sectioning_end}
use Rattle.renders.proofs.render_all.Goals as goal

pub loop-init : goal.loop-init
loop-init c = (sectioning_left (omega arith) (sectioning_begin c.requires.fact_1 c.requires.fact_2), refl, refl)

pub slice_bounds-render-count : goal.slice_bounds-render-count
slice_bounds-render-count c = search (rules, c.loop.invariant.0.inside)

pub slice_bounds-render-start : goal.slice_bounds-render-start
slice_bounds-render-start c = search (rules, c.loop.invariant.0.inside)

pub render-spent-requires : goal.render-spent-requires
render-spent-requires c =
    let g = c.loop.invariant.0 in
    record { fact_1 = next_asked g (omega arith); fact_2 = lent_room g (omega arith) }

pub overflow_add-rounds : goal.overflow_add-rounds
overflow_add-rounds c =
    let after = sectioning_returned c.loop.invariant.0 (omega arith) c.render-spent.ensures c.render-spent.auto.frames in
    omega (arith, after.few)

pub loop-preserved : goal.loop-preserved
loop-preserved c =
    let after = sectioning_returned c.loop.invariant.0 (omega arith) c.render-spent.ensures c.render-spent.auto.frames in
    (sectioning_left (omega arith) after, c.loop.invariant.1, search rules)

pub returns : goal.returns
returns c = sectioning_end c.loop.invariant.0 (omega (arith, c.loop-test.false))
