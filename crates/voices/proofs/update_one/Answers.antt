-- `voices::update_one` meets its contract: each way out is a case of the test. Assumes nothing.
use Rattle.voices.specs.Voices.{unused_rows}
use Rattle.voices.specs.Turns.{step_used, step_unused}
use Rattle.voices.proofs.update_one.Goals as goal

pub returns-then-record_used : goal.returns-then-record_used
returns-then-record_used c =
    step_used _ _ _ _ _ c.section-p.ensures c.record_used.ensures c.if-record_used.true c.update_used.ensures

pub returns-else-record_used : goal.returns-else-record_used
unfolding unused_rows
returns-else-record_used c = step_unused _ _ _ _ _ c.section-p.ensures c.record_used.ensures c.if-record_used.false
