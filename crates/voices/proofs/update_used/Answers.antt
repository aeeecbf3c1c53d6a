-- `voices::update_used` meets its contract: the position's rows, then the sound's. Assumes nothing.
use Rattle.voices.specs.Voices.{rows_of, recorded_rows}
use Rattle.voices.proofs.update_used.Goals as goal

pub returns : goal.returns
unfolding recorded_rows
returns c =
    λ i. rows_of (c.update_position.ensures.words_after i) (c.update_position.ensures.longs_after i) (c.update_position.ensures.floats_after i) (c.update_sound.ensures.contexts_after i) (c.update_sound.ensures.history_after i)
