-- `dsp_header::read::padding_is_zero` meets its contract: a number is 0 just where all its bytes are. Assumes nothing.
use mathlib.Core.Path.{◌∙◌}
use native.Mathlib.Omega.{arith}
use Rattle.dsp_header.specs.Header.{padding_of}
use Rattle.dsp_header.proofs.Numbers.{zeros_are}
use Rattle.dsp_header.proofs.read.padding_is_zero.Goals as goal

pub returns : goal.returns
unfolding padding_of
returns c = c.all_zero.ensures ∙ zeros_are 22 c.args.file.now 0x4a (omega arith)
