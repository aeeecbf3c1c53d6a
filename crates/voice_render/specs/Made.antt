-- What the functions put together is the turn of voice k, by whether it is ready. Assumes nothing.
use Rattle.std.specs.Prelude.{◌≡◌, Bool, true, false, List, ℕ, ◌+◌, ◌<◌, Float}
use Rattle.std.proofs.Common.{sym, subst, ◌∙◌}
use native.Mathlib.Omega.{arith}
use Rattle.params.specs.declared.params.Params.{Params}
use Rattle.state.specs.State.{State}
use Rattle.voice.specs.declared.ready.Prepared.{Prepared}
use Rattle.turn.specs.Render.{Render}
use Rattle.state_voices.specs.StateVoices.{begun_of, begun, Playable, Beginning}
use Rattle.state_voices.specs.Begins.{Begins, begun_facts}
use Rattle.voice_turn.specs.Played.{Studio, studio, played}
use Rattle.voice_turn.specs.Asks.{Renderable, Room, Rendering, renderable_same}
use Rattle.voice_render.specs.RenderVoice.{ready_by, render_voice}

pub beginning_of : {p : Params} {r : Render} {m : List ℕ} {k : ℕ} {st : State} → Renderable p r m st → k < p.voices → Playable p k st → Beginning p k st
beginning_of c h y = record { allowed = c.allowed; sized = c.sized; inside = h; playing = y }

module _ (p : Params) (k : ℕ) (st : State) {u : State} {b : Prepared} (e : begun_of u b ≡ begun p k st) where
  -- what the turn asks
  pub rendering_of : {r : Render} {m : List ℕ} {out : List Float} → Renderable p r m st → Beginning p k st → Room p out → b.ready ≡ true → Rendering p r m k u b.voice out
  rendering_of c q room h =
      let g = subst (Begins p k st) (sym e) (begun_facts q) in
      record { desk = renderable_same c g.only; inside = q.inside; playing = g.playing; some = g.some h; room = room }

  module _ (r : Render) (m : List ℕ) (buffers : List Float) where
    by_ready : {t : Bool} → b.ready ≡ t → (n : ℕ) → ready_by t p r m k b.voice (studio u buffers n) ≡ render_voice p r m k (studio st buffers n)
    unfolding render_voice
    by_ready h n =
        (λ i. ready_by (sym h i) p r m k b.voice (studio u buffers n))
        ∙ (λ i. ready_by (e i).prepared.ready p r m k (e i).prepared.voice (studio (e i).state buffers n))

    pub ready_made : (y : ℕ → Studio) → b.ready ≡ true → ((n : ℕ) → y n ≡ played p r m k b.voice (studio u buffers n)) → (n : ℕ)
        → y n ≡ render_voice p r m k (studio st buffers n)
    unfolding ready_by
    ready_made y h q n = q n ∙ by_ready h n

    pub unready_made : b.ready ≡ false → (n : ℕ) → studio u buffers (n + 0) ≡ render_voice p r m k (studio st buffers n)
    unfolding ready_by
    unready_made h n =
        let z : n + 0 ≡ n = omega arith in
        (λ i. studio u buffers (z i)) ∙ by_ready h n
