use Rattle.rows.specs.Tables.{Joining}
use Rattle.reply_sections.specs.Pools.{pool_row}
use Rattle.reply_sections.proofs.pools.write_pools.Given as goal

abbrev pub invariant-loop-i : goal.invariant-loop-i
invariant-loop-i l = Joining l.initial.out l.at l.n 0x10 (pool_row l.behavior l.size l.input) l.out l.i
