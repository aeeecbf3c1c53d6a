-- `splitters::lists::next_place` meets its contract: by the mark of the next record. Assumes nothing.
use native.Mathlib.Omega.{arith}
use borrow.Author.Tests.{ne_eqb}
use Rattle.splitters.specs.Lists.{next_of}
use Rattle.splitters.proofs.Stores.{next_marked}
use Rattle.splitters.proofs.lists.next_place.Goals as goal

pub returns-then-magic-eq-DESTINATION_MAGIC : goal.returns-then-magic-eq-DESTINATION_MAGIC
returns-then-magic-eq-DESTINATION_MAGIC c = (next_marked _ _ _ c.u32_at-magic.ensures c.if-magic-eq-DESTINATION_MAGIC.either, omega arith)

pub returns-else-magic-eq-DESTINATION_MAGIC : goal.returns-else-magic-eq-DESTINATION_MAGIC
unfolding next_of
returns-else-magic-eq-DESTINATION_MAGIC c =
    let other = c.if-magic-eq-DESTINATION_MAGIC.false in
    (simp (← c.u32_at-magic.ensures, ne_eqb _ _ other.0, ne_eqb _ _ other.1), omega arith)
