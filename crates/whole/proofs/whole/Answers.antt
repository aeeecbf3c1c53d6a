-- `whole::whole` meets its contract: without parameters it is not whole, and with them they decide. Assumes nothing.
use borrow.Author.Tests.{le-leb, lt-leb}
use Rattle.whole.specs.Whole.{whole_of}
use Rattle.whole.proofs.whole.Goals as goal

pub returns-then-words-ge10 : goal.returns-then-words-ge10
unfolding whole_of
returns-then-words-ge10 c = rw (le-leb _ _ c.if-words-ge10.true) (rw c.load.ensures at c.whole_by.ensures)

pub returns-else-words-ge10 : goal.returns-else-words-ge10
unfolding whole_of
returns-else-words-ge10 c = rw (lt-leb _ _ c.if-words-ge10.false)
