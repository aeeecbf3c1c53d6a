-- What the turn of voice k leaves: the voice moves on by itself, whatever sample memory holds, and every other stays. Assumes nothing.
use Rattle.std.specs.Prelude.{◌≡◌, Bool, List, ℕ, ◌<◌, Float}
use Rattle.std.proofs.Math.Path.{refl}
use Rattle.std.proofs.Common.{sym, subst}
use Rattle.std.proofs.Math.Bool.{true, false}
use native.Mathlib.Omega.{arith}
use Rattle.params.specs.declared.params.Params.{Params}
use Rattle.state.specs.State.{State}
use Rattle.turn.specs.Render.{Render}
use Rattle.state_voices.specs.StateVoices.{voice_in, begun, Playing, Playable}
use Rattle.state_voices.specs.Keeps.{only_then}
use Rattle.state_voices.specs.Begins.{begun_facts}
use Rattle.voice_turn.specs.Played.{studio}
use Rattle.voice_turn.specs.Asks.{Renderable, renderable_same}
use Rattle.voice_turn.specs.Laws.{Stepped, played_step}
use Rattle.voice_render.specs.RenderVoice.{ready_by, render_voice}
use Rattle.voice_render.specs.Made.{beginning_of}
use Rattle.voice_render.specs.Next.{ready_voice, next_voice, ready_rounds, voice_rounds, next_playing}

module _ {p : Params} {r : Render} {m : List ℕ} {k : ℕ} {st : State} (c : Renderable p r m st) (h : k < p.voices) (y : Playable p k st) (buffers : List Float) (n : ℕ) where
  by_ready : (t : Bool) → (begun p k st).prepared.ready ≡ t
      → Stepped p k (ready_voice t r (begun p k st).prepared.voice) (ready_rounds t r (begun p k st).prepared.voice) (studio st buffers n)
      (ready_by t p r m k (begun p k st).prepared.voice (studio (begun p k st).state buffers n))
  unfolding ready_by ready_voice ready_rounds
  by_ready true e =
      let g = begun_facts (beginning_of c h y) in
      let s = played_step r m g.only.sized h g.playing c.memory g.shaped buffers n in
      record { only = only_then g.only s.only; voice = s.voice; buffers = s.buffers; total = s.total }
  by_ready false e =
      let g = begun_facts (beginning_of c h y) in
      record { only = g.only; voice = g.stored e; buffers = refl; total = omega arith }

  pub render_step_lem : Stepped p k (next_voice r (voice_in k st)) (voice_rounds r (voice_in k st)) (studio st buffers n) (render_voice p r m k (studio st buffers n))
  unfolding render_voice next_voice voice_rounds begun
  render_step_lem = by_ready (begun p k st).prepared.ready refl

  -- what a render asks holds again, of the state and of each voice
  pub render_renderable : Renderable p r m (render_voice p r m k (studio st buffers n)).state
  render_renderable = renderable_same c render_step_lem.only

  pub render_playable : Playable p k (render_voice p r m k (studio st buffers n)).state
  render_playable =
      subst (Playing p.voices) (sym render_step_lem.voice) (next_playing r (omega (arith, c.samples, c.allowed.samples)) (voice_in k st) y)

  pub render_others : (j : ℕ) → j < p.voices → (j ≡ k → ⊥) → Playable p j st → Playable p j (render_voice p r m k (studio st buffers n)).state
  render_others j l e = subst (Playing p.voices) (sym (render_step_lem.only.others j l e))
