use mathlib.Core.Path.{◌≡◌}
use Prim.Native.Nat.{◌+◌, ◌/◌}
use lib.ListN.{length}
use Rattle.encoder.proofs.Putting.{Putting}
use Rattle.encoder.proofs.frame.put_nibbles.Given as goal

abbrev pub invariant-loop-j : goal.invariant-loop-j
invariant-loop-j l =
    (length l.initial.out ≡ (length l.samples + 1) / 2)
    × Putting l.s l.c l.d l.samples l.h0 l.h1 l.initial.out l.out l.a l.b l.j
