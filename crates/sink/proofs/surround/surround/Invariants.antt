use lib.ListN.{get_or}
use lib.Ieee.{nan}
use Rattle.sink.specs.Sink.{side}
use Rattle.sink.proofs.Framing.{Framing}
use Rattle.sink.proofs.surround.surround.Given as goal

abbrev pub invariant-loop-i : goal.invariant-loop-i
invariant-loop-i l =
    Framing
    (λ j. side l.k (get_or l.rows.left.now j nan) (get_or l.rows.centre.now j nan) (get_or l.rows.low.now j nan) (get_or l.rows.back_left.now j nan))
    (λ j. side l.k (get_or l.rows.right.now j nan) (get_or l.rows.centre.now j nan) (get_or l.rows.low.now j nan) (get_or l.rows.back_right.now j nan))
    l.rows.n l.initial.out l.out l.i
