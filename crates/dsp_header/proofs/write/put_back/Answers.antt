-- `dsp_header::write::put_back` meets its contract. Assumes nothing.
use mathlib.Core.Path.{ap, ◌∙◌}
use native.Mathlib.Omega.{arith}
use Rattle.rows.specs.Rows.{put}
use Rattle.dsp_header.specs.Big.{big_bytes}
use Rattle.dsp_header.specs.Header.{coefficient_bytes, context_bytes, back_bytes}
use Rattle.dsp_header.proofs.Laid.{laid_first, laid_next}
use Rattle.dsp_header.proofs.Numbers.{be_two}
use Rattle.dsp_header.proofs.Sizes.{length_big, length_coefficients, length_context}
use Rattle.dsp_header.proofs.write.put_back.Goals as goal

pub returns : goal.returns
unfolding back_bytes big_bytes
returns c =
    let h = c.args.h in
    (laid_next
    (laid_next
    (laid_next
    (laid_next
    (laid_first 28 (coefficient_bytes h.coefficients) 32 (length_coefficients _) c.put_coefficients.ensures)
    (big_bytes 2 h.gain) 2 (length_big 2 h.gain) (omega arith) (c.copy_in.ensures ∙ ap (put _ 60) (c.to_be_bytes.ensures ∙ be_two h.gain)))
    (context_bytes h.start_context) 6 (length_context _) (omega arith) c.put_context.ensures)
    (context_bytes h.loop_context) 6 (length_context _) (omega arith) c.put_context-2.ensures)
    (big_bytes 22 0) 22 (length_big 22 0) (omega arith) c.fill.ensures
    ).done
