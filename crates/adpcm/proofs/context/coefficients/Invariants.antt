use mathlib.Core.Path.{◌≡◌}
use Prim.Native.Nat.{◌≤◌}
use lib.ListN.{length, take}
use Rattle.adpcm.specs.Context.{first_coefficients}
use Rattle.adpcm.proofs.context.coefficients.Given as goal

abbrev pub invariant-loop-k : goal.invariant-loop-k
invariant-loop-k l = (l.k ≤ 16) × (length l.c ≡ 16) × (take l.k l.c ≡ first_coefficients l.k l.d)
