use mathlib.Core.Path.{◌≡◌}
use lib.ListN.{length}
use Rattle.state.specs.State.{state_of}
use Rattle.turn.specs.Render.{render_over}
use Rattle.voice_turn.specs.Played.{studio}
use Rattle.render_turns.proofs.Loop.{Going}
use Rattle.render_turns.proofs.render_voices.Given as goal

abbrev pub invariant-loop-k : goal.invariant-loop-k
invariant-loop-k l =
    Going l.p (render_over l.r l.ranges) l.memory (studio (state_of l.initial.words l.initial.longs l.initial.floats l.initial.contexts l.initial.history) l.initial.buffers 0)
    (state_of l.words l.longs l.floats l.contexts l.history) l.buffers l.rounds l.k
    × (length l.src ≡ length l.initial.src)
    × (length l.out ≡ length l.initial.out)
