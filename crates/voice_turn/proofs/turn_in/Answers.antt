-- `voice_turn::turn_in` meets its contract: what the calls give, put together, is the turn. Assumes nothing.
use Rattle.state.specs.State.{state_of}
use Rattle.turn.specs.Render.{render_over}
use Rattle.state_voices.specs.Rows.{position_inside, sound_inside}
use Rattle.voice_turn.specs.Asks.{samples_few, sounding_of, sendable_of}
use Rattle.voice_turn.specs.Made.{played_made}
use borrow.Author.Rules.{rules}
use Rattle.voice_turn.proofs.turn_in.Goals as goal

pub plan_turn-t-requires : goal.plan_turn-t-requires
plan_turn-t-requires c =
    let q = c.requires.fact_1 in record { index_bound = q.playing.index; le_channels = (q.some, q.playing.channels); sample_count_bound = samples_few q; t = q.playing.fraction }

pub store_voice_at-requires : goal.store_voice_at-requires
store_voice_at-requires c = let q = c.requires.fact_1 in position_inside q.desk.allowed q.desk.sized q.inside

pub hear_turn-requires : goal.hear_turn-requires
hear_turn-requires c =
    let q = c.requires.fact_1 in record { fact_1 = sounding_of q c.plan_turn-t.ensures c.requires.fact_2; fact_2 = sound_inside q.desk.allowed q.desk.sized q.inside }

pub send_turn-requires : goal.send_turn-requires
send_turn-requires c =
    let q = c.requires.fact_1 in
    sendable_of q c.plan_turn-t.result.voice _ c.store_voice_at.ensures.words_after c.store_voice_at.ensures.floats_after (search rules)

pub returns : goal.returns
returns c =
    played_made c.args.p (render_over c.args.r c.args.ranges.now) c.args.memory.now c.args.k c.args.v (state_of c.args.words.now c.args.longs.now c.args.floats.now c.args.contexts.now c.args.history.now) c.args.buffers.now
    c.plan_turn-t.result c.plan_turn-t.ensures _ c.requires.fact_1.desk.samples c.store_voice_at.ensures.words_after c.store_voice_at.ensures.longs_after c.store_voice_at.ensures.floats_after c.hear_turn.ensures.contexts_after c.hear_turn.ensures.history_after c.hear_turn.ensures.out_after c.send_turn.ensures.buffers_after c.send_turn.ensures.floats_after
