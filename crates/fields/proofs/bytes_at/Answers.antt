-- `fields::bytes_at` meets its contract: inside they are the field's bytes, and else they are zeros. Assumes nothing.
use Rattle.std.proofs.Common.{◌∙◌, ap, List, ℕ}
use Rattle.fields.specs.Fields.{le}
use Rattle.fields.proofs.Answers.{passed, failed, reads_in, reads_out}
use Rattle.fields.proofs.bytes_at.Goals as goal

pub returns-then-inside : goal.returns-then-inside
returns-then-inside g c =
    ap (λ (b : List ℕ). le g.row.W b 0) c.copy_from_slice.ensures.after ∙ reads_in g.row.W _ _ (passed _ _ c.inside.ensures c.if-inside.true)

pub returns-else-inside : goal.returns-else-inside
returns-else-inside g c = reads_out g.row.W _ _ (failed _ _ c.inside.ensures c.if-inside.false)
