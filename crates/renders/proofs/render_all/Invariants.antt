use mathlib.Core.Path.{◌≡◌}
use Prim.Native.Nat.{◌-◌, ◌*◌}
use lib.ListN.{length}
use Rattle.ranges.specs.Ranges.{ranges_of}
use Rattle.state.specs.State.{state_of}
use Rattle.calls.specs.Sections.{section_done}
use Rattle.renders.proofs.Loop.{Sectioning}
use Rattle.renders.proofs.render_all.Given as goal

abbrev pub invariant-loop : goal.invariant-loop
invariant-loop l =
    Sectioning l.p (ranges_of l.ranges) l.memory
    (section_done l.count (state_of l.initial.words l.initial.longs l.initial.floats l.initial.contexts l.initial.history) (ranges_of l.ranges) l.memory l.initial.frames)
    (state_of l.words l.longs l.floats l.contexts l.history) l.frames l.rounds l.at (l.count - l.counter)
    × (l.wide ≡ 2 * l.p.sample_count)
    × (length l.frames ≡ length l.initial.frames)
