-- `dsp_header::big::long` meets its contract: four steps of `big`. Assumes nothing.
use native.Mathlib.Omega.{arith}
use Rattle.dsp_header.proofs.Numbers.{big_four}
use Rattle.dsp_header.proofs.big.long.Goals as goal

pub returns : goal.returns
returns c = omega (arith, c.from_be_bytes.ensures, big_four c.args.d.now c.args.o)
