-- `block::put_front` meets its contract: two pieces, one behind the other. Assumes nothing.
use mathlib.Core.Path.{◌≡◌, sym, ap, ◌∙◌}
use Prim.Native.Nat.{ℕ, ◌+◌, ◌≤◌}
use native.Mathlib.Omega.{arith}
use mathlib.Core.List.{◌++◌}
use lib.ListN.{length, take, drop, length-append, length-drop}
use lib.Seq.{length-take-le}
use Rattle.rows.specs.Rows.{put, put_more}
use Rattle.merging.specs.Merge.{block_header, padded, written_header, merged_pools}
use Rattle.merging.proofs.Lengths.{length_written, length_pools}
use Rattle.merging.proofs.Padding.{put_front}
use Rattle.merging.proofs.block.put_front.Goals as goal
use Rattle.merging.proofs.block.put_front.Goals.{Start}

-- as long as the header
lent_long : (c : Start) → length (take block_header c.args.output.now) ≡ block_header
lent_long c =
    length-take-le block_header c.args.output.now (omega (arith, c.requires.pools_in_bounds))

pub slice_bounds-put_header-end-2 : goal.slice_bounds-put_header-end-2
slice_bounds-put_header-end-2 c = sym (lent_long (goal.at.slice_bounds-put_header-end-2 c).Start)

pub put_header-requires : goal.put_header-requires
put_header-requires c = (c.requires.n_bound, lent_long (goal.at.put_header-requires c).Start)

pub put_padded-requires : goal.put_padded-requires
put_padded-requires c =
    let kept : length c.put_header.new.head ≡ block_header =
    ap length c.put_header.ensures ∙ length_written c.args.n c.args.title.now in
    rw (length-append, kept, length-drop) (omega (arith, c.requires.pools_in_bounds))

pub returns : goal.returns
unfolding merged_pools
returns c =
    let t = c.args.title.now in
    let out = c.args.output.now in
    let written = written_header c.args.n t in
    let long = length_written c.args.n t in
    let left = c.put_header.new.head ++ drop block_header out in
    let front : left ≡ put out 0 written = (λ i. c.put_header.ensures i ++ drop block_header out) ∙ put_front out written long in
    let behind = c.put_padded.ensures ∙ ap (λ (w : ℕ). put left block_header (padded w block_header t)) c.requires.pools_value in
    let room : 0 + block_header + length (merged_pools t) ≤ length out = omega (arith, length_pools t, c.requires.pools_value, c.requires.pools_in_bounds) in
    put_more out 0 block_header written (merged_pools t) long room front behind
