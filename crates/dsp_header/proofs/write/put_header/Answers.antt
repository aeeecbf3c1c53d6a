-- `dsp_header::write::put_header` meets its contract. Assumes nothing.
use native.Mathlib.Omega.{arith}
use Rattle.dsp_header.specs.Header.{front_bytes, back_bytes, header_bytes}
use Rattle.dsp_header.proofs.Laid.{laid_first, laid_next}
use Rattle.dsp_header.proofs.Sizes.{length_front, length_back}
use Rattle.dsp_header.proofs.write.put_header.Goals as goal

pub returns : goal.returns
unfolding header_bytes
returns c =
    let h = c.args.h in
    (laid_next (laid_first 0 (front_bytes h) 28 (length_front h) c.put_front.ensures)
    (back_bytes h) 68 (length_back h) (omega arith) c.put_back.ensures
    ).done
