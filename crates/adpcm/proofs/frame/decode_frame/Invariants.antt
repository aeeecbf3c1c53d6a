use Prim.Native.Nat.{ℕ, ◌≤◌}
use mathlib.Core.Path.{◌≡◌}
use lib.ListN.{length}
use Rattle.adpcm.proofs.Framed.{Framed, context}
use Rattle.adpcm.proofs.frame.decode_frame.Given as goal

abbrev pub invariant-loop-i : goal.invariant-loop-i
invariant-loop-i l =
    (l.i ≤ 7) × (length l.out ≡ 14) × (l.x.pred_scale ≡ l.header) × ((b : ℕ) → Framed l.frame l.coefficients (context b l.initial.x.history0 l.initial.x.history1) l.initial.out l.out l.x.history0 l.x.history1 l.i)
