-- `plan::resets` meets its contract: each way out is a case of the tests. Assumes nothing.
use Rattle.std.proofs.Common.{eq-eqb, ne_eqb}
use Rattle.plan.specs.Rounds.{resets_played}
use Rattle.plan.proofs.after.resets.Goals as goal

pub returns-then-got-ne0 : goal.returns-then-got-ne0
unfolding resets_played
returns-then-got-ne0 c = simp (ne_eqb _ _ c.if-got-ne0.true)

pub returns-else-got-ne0 : goal.returns-else-got-ne0
unfolding resets_played
returns-else-got-ne0 c = simp (eq-eqb _ _ c.if-got-ne0.false)
