-- `adpcm::begins_frame` meets its contract: where all tests hold, so do the facts. Assumes nothing.
use mathlib.Core.Path.{sym, subst, ◌∙◌}
use native.Mathlib.Omega.{arith}
use borrow.Author.Tests.{leb-true}
use lib.Dec.{T, eqb→eq}
use Rattle.adpcm.proofs.frame.begins_frame.Goals as goal
use Rattle.adpcm.proofs.frame.begins_frame.Goals.{then-bytes-ge8, else-bytes-ge8, then-done-count, else-done-count, then-count-ge14, else-count-ge14}

pub returns-then-at-bytes : goal.returns-then-at-bytes
returns-then-at-bytes c = λ t.
    elim c.if-bytes-ge8.branch [
      | then-bytes-ge8 w ↦ elim c.if-done-count.branch [
        | then-done-count v ↦ elim c.if-count-ge14.branch [
          | then-count-ge14 u ↦ (
            eqb→eq _ 0 (subst T c.starts_frame.ensures t),
            omega (arith, leb-true _ _ (sym w.value-is ∙ c.if-at-bytes.true), leb-true _ _ (sym v.value-is ∙ w.if-bytes-ge8.true)),
            omega (arith, leb-true _ _ (sym u.value-is ∙ v.if-done-count.true), u.if-count-ge14.true),
          )
          | else-count-ge14 u ↦ absurd (omega (arith, u.if-count-ge14.false, leb-true _ _ (sym u.value-is ∙ v.if-done-count.true)))
        ]
        | else-done-count v ↦ absurd (subst T (sym w.if-bytes-ge8.true ∙ v.value-is ∙ v.if-done-count.false) tt)
      ]
      | else-bytes-ge8 w ↦ absurd (subst T (sym c.if-at-bytes.true ∙ w.value-is ∙ w.if-bytes-ge8.false) tt)
    ]

pub returns-else-at-bytes : goal.returns-else-at-bytes
returns-else-at-bytes c = λ t. absurd (subst T c.if-at-bytes.false t)
