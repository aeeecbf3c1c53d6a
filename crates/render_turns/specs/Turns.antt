-- The voices of a render in turn, and what a render needs of a state. Definitions only.
use Rattle.std.specs.Prelude.{List, ℕ, ◌≤◌, ◌<◌}
use Rattle.rows.specs.Folds.{up_to}
use Rattle.params.specs.declared.params.Params.{Params}
use Rattle.state.specs.State.{State}
use Rattle.turn.specs.Render.{Render}
use Rattle.state_voices.specs.StateVoices.{Playable}
use Rattle.voice_turn.specs.Played.{Studio}
use Rattle.voice_turn.specs.Asks.{Renderable}
use Rattle.voice_render.specs.RenderVoice.{render_voice}

-- the voices in turn, from their first
unfoldable pub voices_rendered : Params → Render → List ℕ → ℕ → Studio → Studio
voices_rendered p r m k x = up_to (render_voice p r m) k x

-- what a render needs of a state: the desk, and each voice that is still to come
pub record Playing (p : Params) (r : Render) (m : List ℕ) (k : ℕ) (st : State) : Type 0 where
  pub desk : Renderable p r m st
  pub voices : (j : ℕ) → k ≤ j → j < p.voices → Playable p j st
