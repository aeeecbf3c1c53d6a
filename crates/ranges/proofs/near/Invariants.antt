use Rattle.std.proofs.Common.{◌≡◌}
use Rattle.ranges.specs.Ranges.{ranges_of}
use Rattle.ranges.specs.Questions.{near_of}
use Rattle.ranges.proofs.Walk.{Walk}
use Rattle.ranges.proofs.near.Given as goal

abbrev pub invariant-loop-base : goal.invariant-loop-base
invariant-loop-base l = Walk (λ rs. near_of rs ≡ near_of (ranges_of l.ranges)) l.base-items l.base-index
