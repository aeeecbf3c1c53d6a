use Rattle.rows.specs.Loops.{Turning}
use Rattle.voices.specs.Voices.{VoicesSized, rows_of, voice_step}
use Rattle.voices.proofs.update_voices.Given as goal

abbrev pub invariant-loop-k : goal.invariant-loop-k
invariant-loop-k l =
    Turning (VoicesSized l.n) (voice_step l.revision l.n l.d) l.n (rows_of l.initial.words l.initial.longs l.initial.floats l.initial.contexts l.initial.history) (rows_of l.words l.longs l.floats l.contexts l.history) l.k
