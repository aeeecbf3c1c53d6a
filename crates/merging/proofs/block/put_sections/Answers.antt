-- `block::put_sections` meets its contract: two pieces, one behind the other. Assumes nothing.
use mathlib.Core.Path.{◌≡◌, ap, ◌∙◌}
use Prim.Native.Nat.{◌+◌, ◌*◌}
use native.Mathlib.Omega.{arith}
use mathlib.Core.Bool.{false}
use lib.ListN.{length, get_or}
use Rattle.rows.specs.Rows.{put, put_more}
use Rattle.rows.specs.Tables.{joined}
use Rattle.fields.specs.Fields.{section_of}
use Rattle.merging.specs.Merge.{resource_size, record_size, padded, chosen_record, chosen_resource, merged_resource, merged_record}
use Rattle.merging.proofs.Lengths.{length_resources, length_records}
use Rattle.merging.proofs.Choosing.{resources_are, records_are}
use Rattle.merging.proofs.block.put_sections.Goals as goal

pub overflow_mul-n : goal.overflow_mul-n
overflow_mul-n c =
    omega (arith, c.requires.n_bound.0)

pub overflow_add-at : goal.overflow_add-at
overflow_add-at c =
    omega (arith, c.requires.n_bound.0, c.requires.record_size_in_bounds)

pub put_records-requires : goal.put_records-requires
put_records-requires c =
    let kept : length c.put_resources.new.output ≡ length c.args.output.now =
    c.put_resources.auto.output in
    (c.requires.n_bound.0, omega (arith, kept, c.requires.record_size_in_bounds))

pub returns : goal.returns
returns c =
    let t = c.args.title.now in
    let u = c.args.click.now in
    let st = c.read-t.ensures.value in
    let sc = c.read-c.ensures.value in
    let first =
    c.put_resources.ensures
    ∙ (λ i. put c.args.output.now c.args.at (joined c.args.n (λ j. chosen_resource (get_or c.args.named.now j false)
    ((c.section-title_resources.ensures ∙ (λ k. section_of t (st k).resources_at (st k).resources_size)) i)
    ((c.section-click_resources.ensures ∙ (λ k. section_of u (sc k).resources_at (sc k).resources_size)) i) j)))
    ∙ ap (put c.args.output.now c.args.at) (resources_are c.args.n t u c.args.named.now c.requires.n_bound.2) in
    let second =
    c.put_records.ensures
    ∙ (λ i. put c.put_resources.new.output (c.args.at + c.args.n * resource_size) (joined c.args.n (λ k. padded record_size 0 (chosen_record
    ((c.section-title_voices.ensures ∙ (λ j. section_of t (st j).voices_at (st j).voices_size)) i)
    ((c.section-click_voices.ensures ∙ (λ j. section_of u (sc j).voices_at (sc j).voices_size)) i) k))))
    ∙ ap (put c.put_resources.new.output (c.args.at + c.args.n * resource_size)) (records_are c.args.n t u) in
    put_more c.args.output.now c.args.at (c.args.n * resource_size) (joined c.args.n (merged_resource c.args.n t u)) (joined c.args.n (merged_record t u))
    (length_resources c.args.n t u) (omega (arith, length_records c.args.n t u, c.requires.record_size_in_bounds)) first second
