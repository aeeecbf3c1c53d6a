use mathlib.Core.Path.{◌≡◌}
use Prim.Native.Nat.{ℕ, ◌+◌, ◌*◌}
use lib.ListN.{length}
use Rattle.rows.proofs.Filling.{Filling}
use Rattle.dsp_header.specs.Header.{signed_at}
use Rattle.dsp_header.proofs.read.coefficients.Given as goal

abbrev pub invariant-loop-k : goal.invariant-loop-k
invariant-loop-k l = (length l.initial.c ≡ 16) × Filling l.initial.c 16 (λ (i : ℕ). signed_at l.d (l.o + i * 2)) l.c l.k
