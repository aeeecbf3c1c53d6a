-- `whole::whole_by` meets its contract: each test is one of the definition's. Assumes nothing.
use Rattle.std.proofs.Common.{◌∙◌, sym, arith}
use Rattle.std.proofs.lemmas.Grind.{common_steps}
use Rattle.row_tests.specs.Tests.{every}
use Rattle.whole.specs.Counts.{allowed_facts}
use Rattle.whole.specs.Whole.{whole_by, length_facts}
use Rattle.whole.proofs.whole_by.Goals as goal

pub returns-then-not-samples_allowed : goal.returns-then-not-samples_allowed
unfolding whole_by every
returns-then-not-samples_allowed c = grind (arith, common_steps)

pub places_of-at-requires : goal.places_of-at-requires
places_of-at-requires c = allowed_facts _ (sym c.samples_allowed.ensures ∙ c.if-not-samples_allowed.false) (sym c.counts_allowed.ensures ∙ c.if-not-counts_allowed.false)

pub rows_whole-requires : goal.rows_whole-requires
rows_whole-requires c =
    let a = allowed_facts _ (sym c.samples_allowed.ensures ∙ c.if-not-samples_allowed.false) (sym c.counts_allowed.ensures ∙ c.if-not-counts_allowed.false) in
    let l = length_facts _ _ _ _ _ _ (sym (rw c.places_of-at.ensures.0 at c.lengths_right.ensures) ∙ c.if-lengths_right.true) in
    record { allowed = a; at = c.places_of-at.ensures.1; words_len = l.0; floats_len = l.2 }

pub returns-then-lengths_right : goal.returns-then-lengths_right
unfolding whole_by every
returns-then-lengths_right c =
    let lengths = rw c.places_of-at.ensures.0 at c.lengths_right.ensures in
    grind (arith, common_steps, lengths)

pub returns-else-lengths_right : goal.returns-else-lengths_right
unfolding whole_by every
returns-else-lengths_right c =
    let lengths = rw c.places_of-at.ensures.0 at c.lengths_right.ensures in
    grind (arith, common_steps, lengths)
