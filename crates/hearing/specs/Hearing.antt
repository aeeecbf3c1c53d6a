-- The sound of voice k in the rows of all voices, and what is heard of a voice's turn.
use Rattle.std.specs.Prelude.{ℕ, ◌*◌, List, Float}
use Rattle.rows.specs.Rows.{part}
use Rattle.rows.specs.Tables.{joined}
use Rattle.voice.specs.declared.sound.Sound.{Sound}
use Rattle.sound_rows.specs.SoundRow.{sound_of}
use Rattle.playing.specs.Playing.{Material, channel_out}

-- the sound of voice k: 3 contexts from k * 3 and 18 floats of history from k * 18
unfoldable pub sound_in : ℕ → List ℕ → List Float → Sound
unfolding sound_of part
sound_in k contexts history = sound_of (part 3 (k * 3) contexts) (part 18 (k * 18) history)

-- what is heard of all channels, one behind the other
unfoldable pub heard_out : Material → List Float
unfolding joined channel_out
heard_out w = joined w.source.channels (channel_out w)
