use Rattle.std.proofs.Common.{◌≡◌}
use Rattle.ranges.specs.Ranges.{ranges_of}
use Rattle.ranges.specs.Questions.{follow}
use Rattle.ranges.proofs.Walk.{Walk}
use Rattle.ranges.proofs.follow.Given as goal

abbrev pub invariant-loop-base : goal.invariant-loop-base
invariant-loop-base l = Walk (λ rs. follow l.n l.before l.size rs ≡ follow l.n 0 0 (ranges_of l.ranges)) l.base-items l.base-index
