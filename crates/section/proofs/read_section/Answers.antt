-- `section::read_section` meets its contract: the counts are read at the block's first byte, and the records behind the header. Assumes nothing.
use Rattle.std.proofs.Common.{◌∙◌, ◌+◌}
use Rattle.fields.specs.Fields.{field_at}
use Rattle.splitters.specs.Section.{records_from, records_read}
use Rattle.section.proofs.read_section.Goals as goal

pub returns : goal.returns
returns c =
    let first = c.new-r.ensures in
    let behind = c.moved.ensures in
    let block = behind.0 ∙ first.0 in
    let n = c.field.result in
    let m = c.field-2.result in (
      c.records.ensures.0
          ∙ (λ i. records_from c.args.ns c.args.nd (block i).now (behind.1 i) n m c.args.words.now c.args.floats.now)
          ∙ records_read c.args.ns c.args.nd c.args.d.now c.args.words.now c.args.floats.now
          (c.field.ensures ∙ (λ i. field_at 4 (first.0 i).now (first.1 i + 4)))
          (c.field-2.ensures ∙ (λ i. field_at 4 (first.0 i).now (first.1 i + 8))),
      c.records.ensures.1,
    )
