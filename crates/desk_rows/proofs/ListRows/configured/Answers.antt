-- `desk_rows::ListRows::configured` meets its contract: each way out is a case of the three tests. Assumes nothing.
use mathlib.Core.Path.{ap}
use Prim.Native.Nat.{ℕ}
use native.Mathlib.Omega.{arith}
use lib.Dec.{ltb}
use Rattle.desk_rows.specs.Laws.{no_destination, not_used, by_its_mix}
use Rattle.desk_rows.proofs.ListRows.configured.Goals as goal

pub returns-then-d-self : goal.returns-then-d-self
returns-then-d-self c = no_destination _ _ _ _ (omega arith)

pub returns-then-self-d-eq0 : goal.returns-then-self-d-eq0
returns-then-self-d-eq0 c = not_used _ _ _ _ (omega arith) c.if-self-d-eq0.true

pub returns : goal.returns
returns c = by_its_mix _ _ _ _ (omega arith) c.if-self-d-eq0.false (ap (λ (m : ℕ). ltb m 0x7fffffff) c.destination_mix.ensures)
