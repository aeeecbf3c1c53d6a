-- `voice_rows::store_wave_longs` meets its contract: the copied row is the one made. Assumes nothing.
use mathlib.Core.Path.{ap, ◌∙◌}
use Rattle.rows.specs.Rows.{put}
use Rattle.voice_rows.specs.WaveRow.{longs_of_wave}
use Rattle.voice_rows.proofs.wave_row.store_wave_longs.Goals as goal

pub returns : goal.returns
unfolding longs_of_wave
returns c = c.copy_in.ensures ∙ ap (put _ _) c.longs_of_wave.ensures
