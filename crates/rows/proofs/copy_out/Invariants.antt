use Rattle.std.proofs.Common.{length}
use Rattle.rows.proofs.Copying.{Copying}
use Rattle.rows.proofs.copy_out.Given as goal

abbrev pub invariant-loop-k : goal.invariant-loop-k
invariant-loop-k g l = Copying l.initial.row 0 l.s l.at (length l.initial.row) l.row l.k
