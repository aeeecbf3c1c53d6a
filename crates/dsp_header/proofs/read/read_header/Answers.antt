-- `dsp_header::read::read_header` meets its contract: each value is what its reader gives. Assumes nothing.
use Rattle.dsp_header.specs.Header.{header_of}
use Rattle.dsp_header.proofs.read.read_header.Goals as goal

pub returns : goal.returns
unfolding header_of
returns c =
    λ i.
    record {
      samples = c.long.ensures i;
      nibbles = c.long-2.ensures i;
      rate = c.long-3.ensures i;
      loop_flag = c.word.ensures i;
      format = c.word-2.ensures i;
      loop_start = c.long-4.ensures i;
      loop_end = c.long-5.ensures i;
      address = c.long-6.ensures i;
      coefficients = c.coefficients.ensures i;
      gain = c.word-3.ensures i;
      start_context = c.context.ensures i;
      loop_context = c.context-2.ensures i;
    }
