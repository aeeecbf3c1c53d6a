-- The loop over the voices: what holds after k of them. Assumes nothing.
use mathlib.Core.Path.{◌≡◌, refl, ap, sym, subst, ◌∙◌}
use mathlib.Core.List.{List}
use Prim.Native.Nat.{ℕ, ◌+◌, ◌*◌, ◌≤◌, ◌<◌}
use native.Mathlib.Omega.{arith}
use lib.Ieee.{Float}
use lib.ListN.{length}
use Rattle.rows.specs.Folds.{up_to, up_to_more}
use Rattle.params.specs.declared.params.Params.{Params}
use Rattle.state.specs.State.{State, state_of}
use Rattle.turn.specs.Render.{Render}
use Rattle.state_voices.specs.StateVoices.{Playable, voice_in}
use Rattle.voice_turn.specs.Played.{Studio, studio}
use Rattle.voice_turn.specs.Asks.{Renderable}
use Rattle.voice_render.specs.RenderVoice.{render_voice}
use Rattle.voice_render.specs.Next.{voice_rounds, voice_rounds_lem}
use Rattle.voice_render.specs.Laws.{render_step_lem, render_renderable, render_others}
use Rattle.render_turns.specs.Turns.{voices_rendered, Playing}

module _ (p : Params) (r : Render) (m : List ℕ) (x₀ : Studio) where
  pub record Going (st : State) (buffers : List Float) (rounds k : ℕ) : Type 0 where
    pub upto : k ≤ p.voices
    pub few : rounds ≤ k * 64
    pub playing : Playing p r m k st
    pub size : length buffers ≡ length x₀.buffers
    pub done : studio st buffers rounds ≡ voices_rendered p r m k x₀

  pub going_begin : (st : State) (buffers : List Float) → x₀ ≡ studio st buffers 0 → Playing p r m 0 st → Going st buffers 0 0
  unfolding voices_rendered up_to
  going_begin st buffers e h = record {
    upto = omega arith;
    few = omega arith;
    playing = h;
    size = ap (λ (x : Studio). length x.buffers) (sym e);
    done = sym e;
  }

  module _ {st : State} {buffers : List Float} {rounds k : ℕ} (g : Going st buffers rounds k) (inside : k < p.voices)
      {u : State} {b : List Float} (spent : ℕ) (e : (n : ℕ) → studio u b (n + spent) ≡ render_voice p r m k (studio st buffers n)) where
    playable : Playable p k st
    playable = g.playing.voices k (omega arith) inside

    -- a voice takes at most 64 rounds
    pub spent_few : spent ≤ 64
    spent_few =
        let total : rounds + spent ≡ rounds + voice_rounds r (voice_in k st) =
        ap (λ (x : Studio). x.rounds) (e rounds) ∙ (render_step_lem g.playing.desk inside playable buffers rounds).total in
        omega (arith, total, voice_rounds_lem r (voice_in k st))

    pub going_more : Going u b (rounds + spent) (k + 1)
    unfolding voices_rendered
    going_more =
        let state_is = ap (λ (x : Studio). x.state) (e rounds) in
        record {
          upto = omega arith;
          few = omega (arith, spent_few, g.few);
          playing = record {
            desk = subst (Renderable p r m) (sym state_is) (render_renderable g.playing.desk inside playable buffers rounds);
            voices = λ j l h.
                subst (Playable p j) (sym state_is)
                (render_others g.playing.desk inside playable buffers rounds j h (λ (q : j ≡ k). omega arith)
                (g.playing.voices j (omega arith) h));
          };
          size = ap (λ (x : Studio). length x.buffers) (e rounds)
              ∙ (render_step_lem g.playing.desk inside playable buffers rounds).buffers
              ∙ g.size;
          done = e rounds ∙ ap (render_voice p r m k) g.done ∙ up_to_more (render_voice p r m) k x₀;
        }

  pub going_end : {st : State} {buffers : List Float} {rounds k : ℕ} → Going st buffers rounds k → p.voices ≤ k
      → studio st buffers rounds ≡ voices_rendered p r m p.voices x₀
  going_end {k = k} g h =
      let e : k ≡ p.voices = omega (arith, g.upto) in
      g.done ∙ ap (λ (n : ℕ). voices_rendered p r m n x₀) e
