-- `ranges::laid` meets its contract: the first test is of how many ranges there are. Assumes nothing.
use Rattle.std.proofs.Common.{length, ◌/◌, ◌∙◌, arith, le-leb}
use borrow.Author.Tests.{lt-leb}
use Rattle.ranges.specs.Ranges.{ranges_of}
use Rattle.ranges.specs.Questions.{laid_of}
use Rattle.ranges.proofs.Tests.{and_passed, and_failed}
use Rattle.ranges.proofs.Questions.{ranges_count}
use Rattle.ranges.proofs.laid.Goals as goal

pub returns-then-ranges-le-MOST : goal.returns-then-ranges-le-MOST
unfolding laid_of
returns-then-ranges-le-MOST c =
    let xs = c.args.ranges.now in
    c.follow.ensures ∙ and_passed _ (le-leb (length (ranges_of xs)) 16 (omega (arith, ranges_count xs)))

pub returns-else-ranges-le-MOST : goal.returns-else-ranges-le-MOST
unfolding laid_of
returns-else-ranges-le-MOST c =
    let xs = c.args.ranges.now in
    lt-leb (length xs / 3) 16 (omega arith) ∙ and_failed _ (lt-leb (length (ranges_of xs)) 16 (omega (arith, ranges_count xs)))
