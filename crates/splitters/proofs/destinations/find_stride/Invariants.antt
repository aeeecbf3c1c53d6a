use Rattle.splitters.proofs.Stride.{Trying}
use Rattle.splitters.proofs.destinations.find_stride.Given as goal

abbrev pub invariant-loop-k : goal.invariant-loop-k
invariant-loop-k l = Trying l.d l.at l.k
