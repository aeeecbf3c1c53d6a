use mathlib.Core.List.{List}
use Prim.Native.Nat.{ℕ}
use lib.IntN.{ℤ, pos}
use lib.ListN.{get_or}
use Rattle.rows.specs.Tables.{Joining}
use Rattle.dsp_header.specs.Header.{signed_bytes}
use Rattle.dsp_header.proofs.write.put_coefficients.Given as goal

abbrev pub bytes_at : List ℤ → ℕ → List ℕ
bytes_at c k = signed_bytes (get_or c k (pos 0))

abbrev pub invariant-loop-k : goal.invariant-loop-k
invariant-loop-k l = Joining l.initial.out l.o 16 2 (bytes_at l.c) l.out l.k
