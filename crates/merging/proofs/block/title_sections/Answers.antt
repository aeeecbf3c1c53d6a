-- `block::title_sections` meets its contract: all of the array is filled. Assumes nothing.
use mathlib.Core.Path.{sym, ap, ◌∙◌}
use Prim.Native.Nat.{ℕ}
use lib.ListN.{length-replicate}
use Rattle.rows.specs.Rows.{put_all}
use Rattle.params.specs.Sections.{sections_of}
use Rattle.merging.specs.Merge.{block_header, title_header}
use Rattle.merging.proofs.Lengths.{length_padded}
use Rattle.merging.proofs.block.title_sections.Goals as goal

pub returns : goal.returns
unfolding title_header
returns c =
    let all = put_all _ _ (length_padded block_header 0 _ ∙ sym (length-replicate {A = ℕ} block_header 0)) in record { value = c.read.ensures.value ∙ ap sections_of (c.put_padded.ensures ∙ all); near = c.read.ensures.near }
