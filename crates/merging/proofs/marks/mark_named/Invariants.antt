use mathlib.Core.Bool.{Bool}
use mathlib.Core.List.{List}
use mathlib.Core.Path.{◌≡◌}
use lib.ListN.{length}
use Rattle.rows.specs.Loops.{Turning}
use Rattle.merging.specs.Marks.{most_marks, marked_at}
use Rattle.merging.proofs.marks.mark_named.Given as goal

abbrev pub invariant-loop-k : goal.invariant-loop-k
invariant-loop-k l = Turning (λ (m : List Bool). length m ≡ most_marks) (marked_at l.n l.d) l.n l.initial.marks l.marks l.k
