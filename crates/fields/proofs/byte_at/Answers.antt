-- `fields::byte_at` meets its contract: inside, the field is the byte. Assumes nothing.
use Rattle.std.proofs.Common.{sym, ◌∙◌, ◌+◌, length, arith}
use Rattle.fields.specs.Reads.{byte_is, field_in, field_out}
use Rattle.fields.proofs.Answers.{passed, failed}
use Rattle.fields.proofs.byte_at.Goals as goal

pub bounds-d-o : goal.bounds-d-o
bounds-d-o c =
    omega (arith, passed (c.args.o + 1) (length c.args.d.now) c.inside.ensures c.if-inside.true)

pub returns-then-inside : goal.returns-then-inside
returns-then-inside c = byte_is _ _ ∙ sym (field_in 1 _ _ (passed _ _ c.inside.ensures c.if-inside.true))

pub returns-else-inside : goal.returns-else-inside
returns-else-inside c = sym (field_out 1 _ _ (failed _ _ c.inside.ensures c.if-inside.false))
