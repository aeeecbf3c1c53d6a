-- `block::put_header` meets its contract. Assumes nothing.
use mathlib.Core.List.{List}
use mathlib.Core.Path.{sym, ap, ◌∙◌}
use Prim.Native.Nat.{ℕ, ◌*◌}
use Rattle.rows.specs.Rows.{put, put_all}
use Rattle.fields.specs.Fields.{bytes_of}
use Rattle.merging.specs.Merge.{block_header, resource_size, record_size, title_header, written_header}
use Rattle.merging.proofs.Lengths.{length_padded}
use Rattle.merging.proofs.block.put_header.Goals as goal

pub returns : goal.returns
unfolding written_header title_header
returns c =
    let front = c.put_padded.ensures
    ∙ put_all c.args.head.now _ (length_padded block_header 0 c.args.title.now ∙ sym c.requires.1) in
    c.put_u32-2.ensures
    ∙ ap (λ (h : List ℕ). put h 0x10 (bytes_of 4 (c.args.n * resource_size)))
    (c.put_u32.ensures ∙ ap (λ (h : List ℕ). put h 0x0c (bytes_of 4 (c.args.n * record_size))) front)
