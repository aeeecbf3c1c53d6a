-- `frames::downmix` meets its contract by its test. Assumes nothing.
use borrow.Author.Tests.{eq-eqb, ne_eqb}
use Rattle.frames.specs.Frames.{downmix_at, downmix_of}
use Rattle.frames.proofs.downmix.Goals as goal

pub returns-then-words-k-eq0 : goal.returns-then-words-k-eq0
unfolding downmix_at downmix_of
returns-then-words-k-eq0 c = simp (eq-eqb _ 0 c.if-words-k-eq0.true)

pub returns : goal.returns
unfolding downmix_at downmix_of
returns c = simp (ne_eqb _ 0 c.if-words-k-eq0.false)
