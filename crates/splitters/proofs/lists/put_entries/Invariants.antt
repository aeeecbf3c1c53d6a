use Rattle.rows.specs.Tables.{Tabling}
use Rattle.splitters.specs.Lists.{entry_of}
use Rattle.splitters.proofs.lists.put_entries.Given as goal

abbrev pub invariant-loop-k : goal.invariant-loop-k
invariant-loop-k l = Tabling l.initial.words l.to l.n (entry_of l.d l.at) l.words l.k
