-- `dsp_header::write::put_three` meets its contract. Assumes nothing.
use mathlib.Core.Path.{ap, ◌∙◌}
use Prim.Native.Nat.{◌+◌}
use native.Mathlib.Omega.{arith}
use Rattle.rows.specs.Rows.{put}
use Rattle.dsp_header.specs.Big.{big_bytes}
use Rattle.dsp_header.specs.Header.{three_bytes}
use Rattle.dsp_header.proofs.Laid.{laid_first, laid_next}
use Rattle.dsp_header.proofs.Numbers.{be_four}
use Rattle.dsp_header.proofs.Sizes.{length_big}
use Rattle.dsp_header.proofs.write.put_three.Goals as goal

pub returns : goal.returns
unfolding three_bytes
returns c =
    let a = c.to_be_bytes.ensures ∙ be_four c.args.a in
    let b = c.to_be_bytes-2.ensures ∙ be_four c.args.b in
    let d = c.to_be_bytes-3.ensures ∙ be_four c.args.c in
    (laid_next
    (laid_next
    (laid_first c.args.o (big_bytes 4 c.args.a) 4 (length_big 4 _) (c.copy_in.ensures ∙ ap (put _ c.args.o) a))
    (big_bytes 4 c.args.b) 4 (length_big 4 _) (omega arith) (c.copy_in-2.ensures ∙ ap (put _ (c.args.o + 4)) b))
    (big_bytes 4 c.args.c) 4 (length_big 4 _) (omega arith) (c.copy_in-3.ensures ∙ ap (put _ (c.args.o + 8)) d)
    ).done
