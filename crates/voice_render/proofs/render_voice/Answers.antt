-- `voice_render::render_voice` meets its contract: a voice with nothing to do is left, another goes by whether it's ready. Assumes nothing.
use Rattle.state.specs.State.{state_of}
use Rattle.turn.specs.Render.{render_over}
use Rattle.state_voices.specs.Rows.{position_inside}
use Rattle.voice_render.specs.Made.{beginning_of, rendering_of, ready_made, unready_made}
use borrow.Author.Rules.{rules}
use Rattle.voice_render.proofs.IdleTurn.{idle_made}
use Rattle.voice_render.proofs.render_voice.Goals as goal

pub idle-requires : goal.idle-requires
idle-requires c =
    let at = position_inside c.requires.fact_1.allowed c.requires.fact_1.sized c.requires.fact_2 in
    (at.few, at.words)

pub returns-then-idle : goal.returns-then-idle
returns-then-idle c =
    idle_made c.requires.fact_1 c.requires.fact_2 (c.idle.ensures c.if-idle.true) c.args.buffers.now

pub begin_voice-b-requires : goal.begin_voice-b-requires
begin_voice-b-requires c =
    beginning_of c.requires.fact_1 c.requires.fact_2 c.requires.fact_3

pub render_ready-requires : goal.render_ready-requires
render_ready-requires c =
    rendering_of c.args.p c.args.k (state_of c.args.words.now c.args.longs.now c.args.floats.now c.args.contexts.now c.args.history.now)
    c.begin_voice-b.ensures c.requires.fact_1
    (beginning_of c.requires.fact_1 c.requires.fact_2 c.requires.fact_3) c.requires.fact_4 c.if-b.true

pub returns-then-b : goal.returns-then-b
returns-then-b c =
    ready_made c.args.p c.args.k (state_of c.args.words.now c.args.longs.now c.args.floats.now c.args.contexts.now c.args.history.now)
    c.begin_voice-b.ensures (render_over c.args.r c.args.ranges.now) c.args.memory.now c.args.buffers.now _ c.if-b.true c.render_ready.ensures

pub returns : goal.returns
returns c =
    unready_made c.args.p c.args.k (state_of c.args.words.now c.args.longs.now c.args.floats.now c.args.contexts.now c.args.history.now)
    c.begin_voice-b.ensures (render_over c.args.r c.args.ranges.now) c.args.memory.now c.args.buffers.now c.if-b.false
