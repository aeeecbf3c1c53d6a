use mathlib.Core.Bool.{Bool}
use mathlib.Core.List.{List}
use mathlib.Core.Path.{◌≡◌}
use lib.ListN.{length}
use Rattle.rows.specs.Loops.{Turning}
use Rattle.merging.specs.Marks.{mark_channel}
use Rattle.merging.proofs.marks.mark_record.Given as goal

abbrev pub invariant-loop-c : goal.invariant-loop-c
invariant-loop-c l = Turning (λ (m : List Bool). length m ≡ length l.initial.marks) (mark_channel l.n l.e) l.channels l.initial.marks l.marks l.c
