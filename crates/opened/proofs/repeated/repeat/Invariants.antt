use lib.ListN.{length}
use Rattle.rows.specs.Tables.{Joining}
use Rattle.opened.proofs.repeated.repeat.Given as goal

abbrev pub invariant-loop-k : goal.invariant-loop-k
invariant-loop-k g l = Joining l.initial.s l.at l.n (length l.row) (λ _. l.row) l.s l.k
