-- `numbers::positive` meets its contract: each way out is a case of the test. Assumes nothing.
use borrow.Author.Tests.{lt-ltb, le-ltb}
use Rattle.fields.specs.Fields.{positive}
use Rattle.fields.proofs.numbers.positive.Goals as goal

pub returns-then-v-lt2147483648 : goal.returns-then-v-lt2147483648
unfolding positive
returns-then-v-lt2147483648 c = simp (lt-ltb _ _ c.if-v-lt2147483648.true)

pub returns-else-v-lt2147483648 : goal.returns-else-v-lt2147483648
unfolding positive
returns-else-v-lt2147483648 c = simp (le-ltb _ _ c.if-v-lt2147483648.false)
