-- `frames::first` meets its contract: what is left of the search is the whole. Assumes nothing.
use mathlib.Core.Path.{sym, ◌∙◌}
use native.Mathlib.Omega.{arith}
use Rattle.frames.specs.Laws.{found, passed, none_left}
use Rattle.frames.proofs.first.Goals as goal

pub returns-then-plays-clause-found : goal.returns-then-plays-clause-found
returns-then-plays-clause-found c = found _ _ _ c.loop-k.invariant (omega arith) (sym c.plays.ensures ∙ c.if-plays.true)

pub loop-k-preserved : goal.loop-k-preserved
loop-k-preserved c = passed _ _ _ c.loop-k.invariant (omega arith) (sym c.plays.ensures ∙ c.if-plays.false)

pub returns-clause-found : goal.returns-clause-found
returns-clause-found c = none_left _ _ _ c.loop-k.invariant (omega arith)
