use Rattle.std.proofs.Common.{◌≡◌}
use Rattle.ranges.specs.Ranges.{ranges_of}
use Rattle.ranges.specs.Stretch.{stretch_of}
use Rattle.ranges.proofs.Walk.{Walk}
use Rattle.ranges.proofs.stretch_at.Given as goal

abbrev pub invariant-loop-base : goal.invariant-loop-base
invariant-loop-base l = Walk (λ rs. stretch_of rs l.addr ≡ stretch_of (ranges_of l.ranges) l.addr) l.base-items l.base-index
