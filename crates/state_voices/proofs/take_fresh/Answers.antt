-- `state_voices::take_fresh` meets its contract: by whether the voice is fresh. Assumes nothing.
use Rattle.state_voices.specs.Made.{fresh_taken, not_fresh}
use Rattle.state_voices.proofs.take_fresh.Goals as goal

pub returns-then-v : goal.returns-then-v
returns-then-v c =
    fresh_taken c.args.p c.args.v c.args.floats.now c.if-v.true c.take_over_at.ensures

pub returns-else-v : goal.returns-else-v
returns-else-v c =
    not_fresh c.args.p c.args.v c.args.floats.now c.if-v.false
