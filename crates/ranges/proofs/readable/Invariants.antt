use Rattle.std.proofs.Common.{◌≡◌}
use Rattle.ranges.specs.Ranges.{ranges_of, readable_of}
use Rattle.ranges.proofs.Walk.{Walk}
use Rattle.ranges.proofs.readable.Given as goal

abbrev pub invariant-loop-base : goal.invariant-loop-base
invariant-loop-base l =
    Walk (λ rs. readable_of rs l.at l.left ≡ readable_of (ranges_of l.ranges) l.addr l.len) l.base-items l.base-index
