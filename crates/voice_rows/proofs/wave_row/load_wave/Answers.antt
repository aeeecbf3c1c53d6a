-- `voice_rows::load_wave` meets its contract: the buffer is made of the two rows copied out. Assumes nothing.
use mathlib.Core.Path.{◌∙◌}
use Rattle.voice_rows.specs.WaveRow.{wave_of}
use Rattle.voice_rows.proofs.wave_row.load_wave.Goals as goal

pub returns : goal.returns
unfolding wave_of
returns c = c.wave_of.ensures ∙ (λ i. wave_of (c.copy_out.ensures i) (c.copy_out-2.ensures i))
