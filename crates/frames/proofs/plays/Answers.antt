-- `frames::plays` meets its contract: each outcome of the first test is a case of the definition. Assumes nothing.
use borrow.Author.Tests.{eq-eqb, ne_eqb}
use Rattle.frames.specs.Frames.{plays_at}
use Rattle.frames.proofs.plays.Goals as goal

pub returns-then-words-k-ne0 : goal.returns-then-words-k-ne0
unfolding plays_at
returns-then-words-k-ne0 c = rw (ne_eqb _ 0 c.if-words-k-ne0.true)

pub returns-else-words-k-ne0 : goal.returns-else-words-k-ne0
unfolding plays_at
returns-else-words-k-ne0 c = rw (eq-eqb _ 0 c.if-words-k-ne0.false)
