-- `pieces::put_padded` meets its contract: what is there is copied, and zeros are put behind it. Assumes nothing.
use mathlib.Core.List.{◌++◌}
use mathlib.Core.Path.{◌≡◌, sym, ap, ◌∙◌}
use Prim.Native.Nat.{◌+◌, ◌-◌, ◌≤◌, min}
use native.Mathlib.Omega.{arith}
use lib.ListN.{length, take}
use lib.Seq.{length-take-le}
use Rattle.rows.specs.Rows.{put, put_more}
use Rattle.reply_sections.specs.Bytes.{zeros, length_zeros}
use Rattle.merging.proofs.Padding.{padded_is}
use Rattle.merging.proofs.pieces.put_padded.Goals as goal

pub slice_bounds-copy_in-end : goal.slice_bounds-copy_in-end
slice_bounds-copy_in-end c = sym (length-take-le _ _ (omega (arith, c.min-n.ensures)))

pub copy_in-requires : goal.copy_in-requires
copy_in-requires c =
    let long : length (take c.min-n.result c.rest-there.result.now) ≡ c.min-n.result =
    length-take-le _ _ (omega (arith, c.min-n.ensures)) in
    omega (arith, long, c.min-n.ensures)

pub returns : goal.returns
unfolding zeros
returns c =
    let out = c.args.output.now in
    let n = c.min-n.result in
    let there = c.rest-there.result.now in
    let long : length (take n there) ≡ n = length-take-le n there (omega (arith, c.min-n.ensures)) in
    let room : c.args.at + n + length (zeros (c.args.w - n)) ≤ length out = rw length_zeros (omega (arith, c.min-n.ensures)) in
    let all = padded_is c.args.w c.args.from c.args.s.now n (c.min-n.ensures ∙ (λ i. min c.args.w (length (c.rest-there.ensures i)))) in
    put_more out c.args.at n (take n there) (zeros (c.args.w - n)) long room c.copy_in.ensures c.fill.ensures
    ∙ ap (put out c.args.at) ((λ i. take n (c.rest-there.ensures i) ++ zeros (c.args.w - n)) ∙ all)
