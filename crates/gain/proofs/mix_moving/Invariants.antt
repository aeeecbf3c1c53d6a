use Rattle.std.proofs.Common.{List, length, drop}
use lib.Ieee.{Float}
use Rattle.gain.specs.Gain.{mixed}
use Rattle.gain.proofs.Doing.{Doing}
use Rattle.gain.proofs.mix_moving.Given as goal

abbrev pub invariant-loop-i : goal.invariant-loop-i
invariant-loop-i l = Doing (λ (ds : List Float). mixed l.step l.v ds (drop l.i l.s)) (length l.initial.d) (mixed l.step l.from l.initial.d l.s) l.d l.i
