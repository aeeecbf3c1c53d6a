use Rattle.desk_mixes.proofs.Summing.{Summing}
use Rattle.desk_mixes.proofs.offsets.mix_offsets.Given as goal

abbrev pub invariant-loop-k : goal.invariant-loop-k
invariant-loop-k l = Summing l.n l.initial.words l.words l.offset l.k
