-- The turn of a voice with nothing to do leaves the state, the mix buffers and the rounds. Assumes nothing.
use mathlib.Core.Path.{◌≡◌, refl, sym, ◌∙◌}
use mathlib.Core.List.{List}
use Prim.Native.Nat.{ℕ, ◌+◌, ◌<◌}
use native.Mathlib.Omega.{arith}
use lib.Ieee.{Float}
use Rattle.params.specs.declared.params.Params.{Params}
use Rattle.state.specs.State.{State}
use Rattle.turn.specs.Render.{Render}
use Rattle.state_voices.specs.StateVoices.{Idle}
use Rattle.state_voices.proofs.IdleVoice.{idle_begun}
use Rattle.voice_turn.specs.Played.{studio}
use Rattle.voice_turn.specs.Asks.{Renderable}
use Rattle.voice_render.specs.RenderVoice.{render_voice}
use Rattle.voice_render.specs.Made.{unready_made}

module _ {p : Params} {r : Render} {m : List ℕ} {k : ℕ} {st : State} (c : Renderable p r m st) (h : k < p.voices) (e : Idle k st.words)
    (buffers : List Float) (n : ℕ) where
  -- as the function finds it, which adds no round
  pub idle_made : studio st buffers (n + 0) ≡ render_voice p r m k (studio st buffers n)
  idle_made = unready_made p k st (idle_begun c.sized h e) r m buffers refl n

  pub idle_left : render_voice p r m k (studio st buffers n) ≡ studio st buffers n
  idle_left =
      let z : n + 0 ≡ n = omega arith in
      sym idle_made ∙ (λ i. studio st buffers (z i))
