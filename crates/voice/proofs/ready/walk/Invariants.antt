use Rattle.voice.specs.Slots.{Flushing}
use Rattle.voice.proofs.ready.walk.Given as goal

abbrev pub invariant-loop-turn : goal.invariant-loop-turn
invariant-loop-turn l = Flushing l.turns l.base l.initial.q l._turn l.slot l.q
