use lib.ListN.{get_or}
use lib.Ieee.{nan}
use Rattle.sink.proofs.Framing.{Framing}
use Rattle.sink.proofs.stereo.Given as goal

abbrev pub invariant-loop-i : goal.invariant-loop-i
invariant-loop-i l = Framing (λ k. get_or l.l k nan) (λ k. get_or l.r k nan) l.n l.initial.out l.out l.i
