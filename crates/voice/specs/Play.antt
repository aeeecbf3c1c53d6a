-- What an update's request makes of the play mark (mixer.rs `set_play`).
use Rattle.std.specs.Prelude.{ℕ, zero, suc}
use Rattle.voice.specs.declared.play.Play.{Play}
use Rattle.voice.specs.declared.play.Play.TheVariants.{Started, Stopped, Stopping, Paused}

-- a request to stop
abbrev pub stop_play : Play → Play
stop_play Started = Stopping
stop_play Stopped = Stopped
stop_play Stopping = Stopping
stop_play Paused = Stopping

-- 0 starts, 1 stops what is not stopped, any other pauses
unfoldable pub set_play : Play → ℕ → Play
set_play p zero = Started
set_play p (suc zero) = stop_play p
set_play p (suc (suc n)) = Paused
