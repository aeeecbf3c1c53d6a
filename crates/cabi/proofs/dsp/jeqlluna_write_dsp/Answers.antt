-- `cabi::dsp::jeqlluna_write_dsp` meets its contract. Assumes nothing.
use mathlib.Core.Path.{ap, ◌∙◌}
use Rattle.dsp_header.specs.declared.DspHeader.{DspHeader}
use Rattle.dsp_file.specs.File.{write_call}
use Rattle.cabi.proofs.dsp.jeqlluna_write_dsp.Goals as goal

pub returns : goal.returns
returns c =
    rw c.write_told.ensures c.write_dsp.ensures
    ∙ ap (λ (h : DspHeader). write_call h c.args.«data».now c.args.output.now) c.header_in.ensures
