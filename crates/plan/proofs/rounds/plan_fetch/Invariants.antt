use Rattle.std.proofs.Common.{◌-◌}
use Rattle.voice.specs.Queue.{queue_at}
use Rattle.plan.specs.Source.{over}
use Rattle.plan.specs.Fetch.{Walking}
use Rattle.plan.proofs.rounds.plan_fetch.Given as goal

abbrev pub invariant-loop-rounds : goal.invariant-loop-rounds
invariant-loop-rounds l =
    Walking (over l.s l.ranges) l.count (queue_at l.buffers l.initial.spot) (queue_at l.buffers l.spot) l.done l.rounds l.going

abbrev pub decreases-loop-rounds : goal.decreases-loop-rounds
decreases-loop-rounds l = 64 - l.rounds
