-- `dsp_header::write::put_front` meets its contract. Assumes nothing.
use mathlib.Core.Path.{ap, ◌∙◌}
use native.Mathlib.Omega.{arith}
use Rattle.rows.specs.Rows.{put}
use Rattle.dsp_header.specs.Big.{big_bytes}
use Rattle.dsp_header.specs.Header.{three_bytes, front_bytes}
use Rattle.dsp_header.proofs.Laid.{laid_first, laid_next}
use Rattle.dsp_header.proofs.Numbers.{be_two}
use Rattle.dsp_header.proofs.Sizes.{length_big, length_three}
use Rattle.dsp_header.proofs.write.put_front.Goals as goal

pub returns : goal.returns
unfolding front_bytes
returns c =
    let h = c.args.h in
    (laid_next
    (laid_next
    (laid_next
    (laid_first 0 (three_bytes h.samples h.nibbles h.rate) 12 (length_three _ _ _) c.put_three.ensures)
    (big_bytes 2 h.loop_flag) 2 (length_big 2 _) (omega arith) (c.copy_in.ensures ∙ ap (put _ 12) (c.to_be_bytes.ensures ∙ be_two h.loop_flag)))
    (big_bytes 2 h.format) 2 (length_big 2 _) (omega arith) (c.copy_in-2.ensures ∙ ap (put _ 14) (c.to_be_bytes-2.ensures ∙ be_two h.format)))
    (three_bytes h.loop_start h.loop_end h.address) 12 (length_three _ _ _) (omega arith) c.put_three-2.ensures
    ).done
