use Rattle.rows.specs.Tables.{Tabling}
use Rattle.desk.specs.Records.{float_at}
use Rattle.desk.proofs.records.put_floats.Given as goal

abbrev pub invariant-loop-k : goal.invariant-loop-k
invariant-loop-k l = Tabling l.initial.floats l.to l.n (float_at l.p l.o) l.floats l.k
