use Rattle.std.proofs.Common.{length}
use Rattle.gain.specs.Gain.{scaled}
use Rattle.gain.proofs.Doing.{Doing}
use Rattle.gain.proofs.ramp_level.Given as goal

abbrev pub invariant-loop-x : goal.invariant-loop-x
invariant-loop-x l = Doing (scaled l.gain) (length l.initial.s) (scaled l.gain l.initial.s) l.s l.x-index
