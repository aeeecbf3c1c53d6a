-- `floats::min` meets its contract: the code makes the definition's two tests. Assumes nothing.
use Rattle.std.proofs.Common.{sym, ◌∙◌}
use Rattle.floats.specs.Defs.{min_of}
use Rattle.floats.proofs.min.Goals as goal
use Rattle.floats.proofs.min.Goals.{then-is_nan, else-is_nan}

pub returns-then-b-a : goal.returns-then-b-a
unfolding min_of
returns-then-b-a c = elim c.if-is_nan.branch [
  | then-is_nan w ↦ simp (sym c.is_nan.ensures.value ∙ w.if-is_nan.true)
  | else-is_nan w ↦ simp (sym c.is_nan.ensures.value ∙ w.if-is_nan.false, sym w.value-is ∙ c.if-b-a.true)
]

pub returns-else-b-a : goal.returns-else-b-a
unfolding min_of
returns-else-b-a c = elim c.if-is_nan.branch [
  | then-is_nan w ↦ cc
  | else-is_nan w ↦ simp (sym c.is_nan.ensures.value ∙ w.if-is_nan.false, sym w.value-is ∙ c.if-b-a.false)
]
