use Rattle.std.proofs.Common.{length}
use Rattle.rows.proofs.Copying.{Copying}
use Rattle.rows.proofs.copy_in.Given as goal

abbrev pub invariant-loop-k : goal.invariant-loop-k
invariant-loop-k g l = Copying l.initial.s l.at l.row 0 (length l.row) l.s l.k
