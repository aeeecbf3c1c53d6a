use Prim.Native.Nat.{ℕ, ◌+◌, ◌*◌}
use Rattle.row_tests.specs.Tests.{Passing}
use Rattle.row_tests.specs.Limits.{within}
use Rattle.row_tests.specs.Pairs.{fields_of, limits_of}
use Rattle.row_tests.proofs.limits.rows_within.Given as goal

abbrev pub invariant-loop-i : goal.invariant-loop-i
invariant-loop-i l = Passing (λ (i' : ℕ). within l.s (l.base + i' * l.w) (fields_of l.limits) (limits_of l.limits)) l.n l.i
