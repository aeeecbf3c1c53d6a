use Prim.Native.Nat.{ℕ}
use Rattle.rows.specs.Tables.{Joining}
use Rattle.merging.specs.Merge.{record_size, padded, chosen_record}
use Rattle.merging.proofs.pieces.put_records.Given as goal

abbrev pub invariant-loop-k : goal.invariant-loop-k
invariant-loop-k l = Joining l.initial.output l.at l.n record_size (λ (k' : ℕ). padded record_size 0 (chosen_record l.d l.e k')) l.output l.k
