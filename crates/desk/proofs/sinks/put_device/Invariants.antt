use Rattle.std.proofs.Common.{ℕ, ◌+◌}
use Rattle.rows.specs.Tables.{Tabling}
use Rattle.fields.specs.Fields.{field_at}
use Rattle.desk.proofs.sinks.put_device.Given as goal

abbrev pub invariant-loop-k : goal.invariant-loop-k
invariant-loop-k l = Tabling l.initial.row 3 6 (λ (i : ℕ). field_at 1 l.p (0x124 + i)) l.row l.k
