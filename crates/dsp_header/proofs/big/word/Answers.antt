-- `dsp_header::big::word` meets its contract: two steps of `big`. Assumes nothing.
use native.Mathlib.Omega.{arith}
use Rattle.dsp_header.proofs.Numbers.{big_two}
use Rattle.dsp_header.proofs.big.word.Goals as goal

pub returns : goal.returns
returns c = omega (arith, c.from_be_bytes.ensures, big_two c.args.d.now c.args.o)
