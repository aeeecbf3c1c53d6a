-- `plan::begins` meets its contract: each way out is a case of the tests. Assumes nothing.
use Rattle.std.proofs.Common.{le-ltb, lt-ltb}
use Rattle.plan.specs.Rounds.{more}
use Rattle.plan.proofs.rounds.begins.Goals as goal

pub returns-then-not-going : goal.returns-then-not-going
unfolding more
returns-then-not-going c b = simp c.if-not-going.true

pub returns-then-count-done : goal.returns-then-count-done
unfolding more
returns-then-count-done c b = simp (c.if-not-going.false, le-ltb _ _ c.if-count-done.true)

pub returns : goal.returns
unfolding more
returns c b = simp (c.if-not-going.false, lt-ltb _ _ c.if-count-done.false)
