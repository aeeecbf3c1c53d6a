-- `state_voices::store_prepared` meets its contract: by whether the voice is ready. Assumes nothing.
use borrow.Author.Tests.{not-true, not-false}
use Rattle.state.specs.State.{state_of}
use Rattle.state_voices.specs.Made.{stored_ready, stored_unready}
use Rattle.state_voices.proofs.store_prepared.Goals as goal

pub returns-else-not-b : goal.returns-else-not-b
returns-else-not-b c =
    stored_ready c.args.k c.args.b (state_of c.args.words.now c.args.longs.now c.args.floats.now c.args.contexts.now c.args.history.now) (not-false _ c.if-not-b.false)

pub returns-then-not-b : goal.returns-then-not-b
returns-then-not-b c =
    stored_unready c.args.k c.args.b (state_of c.args.words.now c.args.longs.now c.args.floats.now c.args.contexts.now c.args.history.now) (not-true _ c.if-not-b.true) c.store_unready.ensures
