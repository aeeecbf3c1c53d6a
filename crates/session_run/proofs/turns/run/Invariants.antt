-- `session_run::turns::run` prints the lines of the calls up to the first refusal, one for each. Assumes nothing.
use Rattle.std.proofs.Common.{◌≡◌, ◌-◌, length}
use Rattle.state.specs.State.{state_of}
use Rattle.session_calls.specs.Steps.{held}
use Rattle.session_run.proofs.Running.{Running}
use Rattle.session_run.proofs.turns.run.Given as goal

abbrev pub invariant-loop : goal.invariant-loop
invariant-loop g l =
    Running l.input l.printed l.at (l.n - l.counter) (held (state_of l.words l.longs l.floats l.contexts l.history) l.frames l.reply)
    × (length l.words ≡ length l.initial.words)
    × (length l.longs ≡ length l.initial.longs)
    × (length l.floats ≡ length l.initial.floats)
    × (length l.contexts ≡ length l.initial.contexts)
    × (length l.history ≡ length l.initial.history)
    × (length l.frames ≡ length l.initial.frames)
    × (length l.reply ≡ length l.initial.reply)
    × (length l.out ≡ length l.initial.out)
