use mathlib.Core.Path.{◌≡◌}
use Prim.Native.Nat.{◌-◌}
use Rattle.frames.specs.Frames.{first_from}
use Rattle.frames.proofs.first.Given as goal

abbrev pub invariant-loop-k : goal.invariant-loop-k
invariant-loop-k l = first_from l.words (l.sinks - l.k) l.k ≡ first_from l.words l.sinks 0
