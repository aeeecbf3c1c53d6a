-- `sound_rows::store_sound` meets its contract: one store for each slice. Assumes nothing.
use Rattle.sound_rows.specs.SoundRow.{contexts_of, history_of}
use Rattle.sound_rows.proofs.store_sound.Goals as goal

pub returns : goal.returns
unfolding contexts_of history_of
returns c = record { contexts_after = c.store_context.ensures; history_after = c.store_history.ensures }
