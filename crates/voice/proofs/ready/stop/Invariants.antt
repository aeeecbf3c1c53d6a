use Rattle.voice.specs.Slots.{Stopping}
use Rattle.voice.proofs.ready.stop.Given as goal

abbrev pub invariant-loop-k : goal.invariant-loop-k
invariant-loop-k l = Stopping l.initial.q l.k l.q
