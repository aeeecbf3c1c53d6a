-- `voices::some_channel` meets its contract: by whether the voice is in use. Assumes nothing.
use borrow.Author.Tests.{eq-eqb, ne_eqb}
use Rattle.row_tests.specs.Voices.{some_channel}
use Rattle.row_tests.proofs.voices.some_channel.Goals as goal

pub returns-then-used-eq0 : goal.returns-then-used-eq0
unfolding some_channel
returns-then-used-eq0 c = simp (eq-eqb _ _ c.if-used-eq0.true)

pub returns-else-used-eq0 : goal.returns-else-used-eq0
unfolding some_channel
returns-else-used-eq0 c = simp (ne_eqb _ _ c.if-used-eq0.false)
