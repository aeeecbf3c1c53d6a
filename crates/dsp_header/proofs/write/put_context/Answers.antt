-- `dsp_header::write::put_context` meets its contract. Assumes nothing.
use mathlib.Core.Path.{ap, ◌∙◌}
use Prim.Native.Nat.{◌+◌}
use native.Mathlib.Omega.{arith}
use Rattle.rows.specs.Rows.{put}
use Rattle.dsp_header.specs.Big.{big_bytes}
use Rattle.dsp_header.specs.Header.{signed_bytes, context_bytes}
use Rattle.dsp_header.proofs.Laid.{laid_first, laid_next}
use Rattle.dsp_header.proofs.Numbers.{be_two, bits_are}
use Rattle.dsp_header.proofs.Sizes.{length_big, length_signed}
use Rattle.dsp_header.proofs.write.put_context.Goals as goal

pub returns : goal.returns
unfolding context_bytes
returns c =
    let first = c.to_be_bytes.ensures ∙ be_two c.args.x.pred_scale in
    let later = c.to_be_bytes-2.ensures ∙ bits_are c.args.x.history0 (omega arith) in
    let earlier = c.to_be_bytes-3.ensures ∙ bits_are c.args.x.history1 (omega arith) in
    (laid_next
    (laid_next
    (laid_first c.args.o (big_bytes 2 c.args.x.pred_scale) 2 (length_big 2 _) (c.copy_in.ensures ∙ ap (put _ c.args.o) first))
    (signed_bytes c.args.x.history0) 2 (length_signed _) (omega arith) (c.copy_in-2.ensures ∙ ap (put _ (c.args.o + 2)) later))
    (signed_bytes c.args.x.history1) 2 (length_signed _) (omega arith) (c.copy_in-3.ensures ∙ ap (put _ (c.args.o + 4)) earlier)
    ).done
