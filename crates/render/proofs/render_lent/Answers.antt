-- `render::render_lent` meets its contract: the mix buffers that are lent are silent, and the desk that the voices leave can be mixed down.
-- Assumes nothing.
use Rattle.std.proofs.Common.{List, take, drop, sym, ap, ◌∙◌, subst, arith, length-take-le, take_at}
use mir.Facts.{Fits-below}
use lib.Ieee.{Float}
use Rattle.state.specs.State.{State, state_of}
use Rattle.ranges.specs.Ranges.{ranges_of}
use Rattle.turn.specs.Render.{Render, render_over}
use Rattle.render_turns.specs.Turns.{Playing}
use Rattle.render.specs.Render.{rendered_on, frames_on}
use Rattle.render.specs.Laws.{counted_playing, after_mixable, render_done_lem}
use Rattle.render.specs.Rooms.{floats_for}
use Rattle.render.proofs.Fitting.{room_kept, floats_upto, blank_rendered}
use Rattle.render.proofs.render_lent.Goals as goal
use Rattle.render.proofs.render_lent.Goals.{After-render_of-r}

-- the state that the call was given
abbrev given : After-render_of-r → State
given c = state_of c.args.words.now c.args.longs.now c.args.floats.now c.args.contexts.now c.args.history.now

-- what the voices are given
abbrev over : After-render_of-r → Render
over c = render_over c.render_of-r.result c.args.ranges.now

-- the voices can be played with it
ready : (c : After-render_of-r) → Playing c.args.p (over c) c.args.memory.now 0 (given c)
ready c =
    let same = sym (c.render_of-r.ensures c.args.ranges.now) in
    subst (λ (r : Render). Playing c.args.p r c.args.memory.now 0 (given c)) same c.requires.fact_1

pub overflow_cast-n : goal.overflow_cast-n
overflow_cast-n c = Fits-below tt c.requires.fact_1.desk.allowed.samples

pub overflow_cast-total : goal.overflow_cast-total
overflow_cast-total c = Fits-below tt c.requires.fact_1.desk.allowed.mix_buffers_lem

pub overflow_mul-total : goal.overflow_mul-total
overflow_mul-total c = Fits-below tt (floats_upto c.requires.fact_1)

pub count_render-requires : goal.count_render-requires
count_render-requires c = omega (arith, c.requires.fact_1.desk.sized.longs)

pub slice_bounds-render_voices-end : goal.slice_bounds-render_voices-end
slice_bounds-render_voices-end c = c.requires.fact_3.room

pub slice_bounds-render_voices-end-2 : goal.slice_bounds-render_voices-end-2
slice_bounds-render_voices-end-2 c = sym (length-take-le (floats_for c.args.p) c.args.buffers.now c.requires.fact_3.room)

pub render_voices-rounds-requires : goal.render_voices-rounds-requires
render_voices-rounds-requires c =
    let made = (goal.at.render_voices-rounds-requires c).After-render_of-r in
    record { fact_1 = counted_playing {st = given made} (ready made) c.count_render.ensures; fact_2 = c.requires.fact_4.heard }

pub slice_bounds-finish-end : goal.slice_bounds-finish-end
slice_bounds-finish-end c = room_kept (omega arith) c.requires.fact_3.room

pub slice_bounds-finish-end-2 : goal.slice_bounds-finish-end-2
slice_bounds-finish-end-2 c = sym (length-take-le _ _ (room_kept (omega arith) c.requires.fact_3.room))

pub slice_bounds-finish-end-3 : goal.slice_bounds-finish-end-3
slice_bounds-finish-end-3 c = room_kept c.render_voices-rounds.auto.src c.requires.fact_4.row

pub slice_bounds-finish-end-4 : goal.slice_bounds-finish-end-4
slice_bounds-finish-end-4 c =
    let row = room_kept c.render_voices-rounds.auto.src c.requires.fact_4.row in
    sym (length-take-le _ _ row)

pub finish-requires : goal.finish-requires
finish-requires c =
    let made = (goal.at.finish-requires c).After-render_of-r in
    let playing = counted_playing {st = given made} (ready made) c.count_render.ensures in
    let row = room_kept c.render_voices-rounds.auto.src c.requires.fact_4.row in
    record { fact_1 = after_mixable _ playing c.render_voices-rounds.ensures; fact_2 = length-take-le _ _ row; fact_3 = c.requires.fact_2 }

pub returns : goal.returns
returns c =
    let made = (goal.at.returns c).After-render_of-r in
    let last = c.render_voices-rounds.new in
    let total = floats_for c.args.p in
    let blank = c.requires.fact_3 in
    let lent = take total c.args.buffers.now in
    let mix = last.buffers in
    let long = c.render_voices-rounds.auto.buffers ∙ length-take-le total _ blank.room in
    let again = take_at mix (drop total c.args.buffers.now) total long in
    let same = ap (λ (b : List Float). frames_on c.args.p last.words last.floats b c.args.frames.now) again in
    render_done_lem c.args.p (over made) c.args.memory.now (given made) lent c.args.frames.now
    c.count_render.ensures
    c.render_voices-rounds.ensures
    (c.finish.ensures ∙ same)
    ∙ (λ i. rendered_on c.args.p (c.render_of-r.ensures c.args.ranges.now i) c.args.memory.now (given made) lent c.args.frames.now)
    ∙ blank_rendered c.args.p (ranges_of c.args.ranges.now) c.args.memory.now (given made) c.args.buffers.now c.args.frames.now blank
