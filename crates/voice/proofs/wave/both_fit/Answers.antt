-- `voice::both_fit` meets its contract: the second test decides where the first passes. Assumes nothing.
use Rattle.std.proofs.Common.{arith, le-leb}
use borrow.Author.Tests.{lt-leb}
use Rattle.voice.proofs.wave.both_fit.Goals as goal

pub returns-then-start-size : goal.returns-then-start-size
returns-then-start-size c = rw (le-leb c.args.start c.args.size (omega arith))

pub returns-else-start-size : goal.returns-else-start-size
returns-else-start-size c = rw (lt-leb c.args.start c.args.size (omega arith))
