use mathlib.Core.Path.{◌≡◌}
use mathlib.Core.List.{List}
use Prim.Native.Nat.{ℕ}
use lib.IntN.{ℤ, pos}
use lib.ListN.{length, get_or}
use Rattle.rows.proofs.Filling.{Filling}
use Rattle.cabi.proofs.decode.sixteen.Given as goal

abbrev pub at : List ℤ → ℕ → ℤ
at k i = get_or k i (pos 0)

abbrev pub invariant-loop-k : goal.invariant-loop-k
invariant-loop-k l = (length l.initial.c ≡ 16) × Filling l.initial.c 16 (at l.coefficients) l.c l.k
