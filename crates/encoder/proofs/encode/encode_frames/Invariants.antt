use Prim.Native.Nat.{◌-◌}
use lib.ListN.{length}
use Rattle.encoder.proofs.Going.{Going}
use Rattle.encoder.proofs.encode.encode_frames.Given as goal

abbrev pub invariant-loop-at : goal.invariant-loop-at
invariant-loop-at l = Going l.coefficients l.samples l.initial.x l.initial.out l.out l.x l.error l.at l.put

abbrev pub decreases-loop-at : goal.decreases-loop-at
decreases-loop-at l = length l.samples - l.at
