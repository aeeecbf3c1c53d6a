-- The turn of voice k in a render (mixer.rs `render_voice`). Definitions only.
use Rattle.std.specs.Prelude.{Bool, true, false, List, ℕ}
use Rattle.params.specs.declared.params.Params.{Params}
use Rattle.state.specs.State.{State}
use Rattle.voice.specs.declared.Voice.{Voice}
use Rattle.turn.specs.Render.{Render}
use Rattle.state_voices.specs.StateVoices.{begun}
use Rattle.voice_turn.specs.Played.{Studio, studio, played}

-- with another state
abbrev pub with_state : State → Studio → Studio
with_state st x = studio st x.buffers x.rounds

-- voice k, prepared as v, by whether it is ready
unfoldable pub ready_by : Bool → Params → Render → List ℕ → ℕ → Voice → Studio → Studio
unfolding played
ready_by true p r m k v x = played p r m k v x
ready_by false p r m k v x = x

-- it is begun, and where it is ready it takes its turn
unfoldable pub render_voice : Params → Render → List ℕ → ℕ → Studio → Studio
unfolding begun ready_by
render_voice p r m k x =
    let b = begun p k x.state in
    ready_by b.prepared.ready p r m k b.prepared.voice (with_state b.state x)
