-- `state_voices::store_unready` meets its contract: the voice is stored, and its sound reset or left. Assumes nothing.
use Rattle.state.specs.State.{state_of}
use Rattle.state_voices.specs.Made.{unready_reset, unready_kept}
use Rattle.state_voices.proofs.store_unready.Goals as goal

pub returns-then-b : goal.returns-then-b
returns-then-b c =
    unready_reset c.args.k c.args.b (state_of c.args.words.now c.args.longs.now c.args.floats.now c.args.contexts.now c.args.history.now) c.store_voice_at.ensures.words_after c.store_voice_at.ensures.longs_after c.store_voice_at.ensures.floats_after c.if-b.true
    c.reset_sound.ensures.contexts_after c.reset_sound.ensures.history_after

pub returns-else-b : goal.returns-else-b
returns-else-b c =
    unready_kept c.args.k c.args.b (state_of c.args.words.now c.args.longs.now c.args.floats.now c.args.contexts.now c.args.history.now) c.store_voice_at.ensures.words_after c.store_voice_at.ensures.longs_after c.store_voice_at.ensures.floats_after c.if-b.false
