use Rattle.rows.specs.Tables.{Tabling}
use Rattle.rows.proofs.fill.Given as goal

abbrev pub invariant-loop-k : goal.invariant-loop-k
invariant-loop-k g l = Tabling l.initial.s l.at l.n (λ _. l.value) l.s l.k
