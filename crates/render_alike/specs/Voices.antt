-- Each voice in a render: until its turn it is as it was, and from then on it is its next. Assumes nothing.
use Rattle.std.specs.Prelude.{◌≡◌, List, Float, length}
use Rattle.std.proofs.Math.Path.{refl, ap}
use Rattle.std.proofs.Common.{sym, ◌∙◌, le_refl, le_of_suc-le-suc, eq-or-lt_of_le, arith}
use Rattle.std.proofs.Math.Logic.{⊎_elim}
use Prim.Native.Nat.{ℕ, zero, suc, ◌≤◌, ◌<◌}
use Rattle.rows.specs.Folds.{up_to}
use Rattle.params.specs.declared.params.Params.{Params}
use Rattle.state.specs.State.{State, params_in}
use Rattle.ranges.specs.Ranges.{Range}
use Rattle.ranges.specs.Ascending.{Ascending}
use Rattle.turn.specs.Render.{Render}
use Rattle.whole.specs.Whole.{Whole}
use Rattle.state_voices.specs.StateVoices.{voice_in}
use Rattle.voice_turn.specs.Played.{Studio}
use Rattle.voice_turn.specs.Laws.{Stepped}
use Rattle.voice_render.specs.RenderVoice.{render_voice}
use Rattle.voice_render.specs.Next.{next_voice, voice_rounds}
use Rattle.voice_render.specs.Laws.{render_step_lem}
use Rattle.render_turns.specs.Turns.{voices_rendered, Playing}
use Rattle.render.specs.Render.{render_of, rendered_on, rendered_by}
use Rattle.render_turns.proofs.After.{playing_after}
use Rattle.render.specs.Laws.{elapsed_playing, voice_same}
use Rattle.render.specs.FromWhole.{whole_playing}

module _ (p : Params) (r : Render) (m : List ℕ) (x : Studio) (h : Playing p r m 0 x.state) where
  -- the turn of voice k
  step : (k : ℕ) → k < p.voices
      → let y = voices_rendered p r m k x in
      Stepped p k (next_voice r (voice_in k y.state)) (voice_rounds r (voice_in k y.state)) y (render_voice p r m k y)
  step k l =
      let g = playing_after p r m x h k (omega arith) in
      let y = voices_rendered p r m k x in
      render_step_lem g.desk l (g.voices k (le_refl k) l) y.buffers y.rounds

  pub voice_left : (k j : ℕ) → k ≤ j → j < p.voices → voice_in j (voices_rendered p r m k x).state ≡ voice_in j x.state
  unfolding voices_rendered up_to
  voice_left zero j l b = refl
  voice_left (suc k) j l b = (step k (omega arith)).only.others j b (λ (e : j ≡ k). omega arith) ∙ voice_left k j (omega arith) b

  pub voice_done : (k j : ℕ) → j < k → k ≤ p.voices → voice_in j (voices_rendered p r m k x).state ≡ next_voice r (voice_in j x.state)
  unfolding voices_rendered up_to
  voice_done zero j l b = absurd (omega arith)
  voice_done (suc k) j l b =
      ⊎_elim (λ (e : j ≡ k).
      ap (λ (i : ℕ). voice_in i (render_voice p r m k (voices_rendered p r m k x)).state) e
      ∙ (step k b).voice
      ∙ ap (next_voice r) (voice_left k k (le_refl k) b)
      ∙ ap (λ (i : ℕ). next_voice r (voice_in i x.state)) (sym e))
      (λ (g : j < k). (step k b).only.others j (omega arith) (λ (e : j ≡ k). omega arith) ∙ voice_done k j g (omega arith))
      (eq-or-lt_of_le (le_of_suc-le-suc l))

-- after a render it is its next, by the ranges of memory and no byte of it
pub rendered_voice : (st : State) → Whole st → (rs : List Range) (m : List ℕ) → Ascending (length m) 0 rs → (frames : List Float)
    → (k : ℕ) → k < (params_in st).voices
    → voice_in k (rendered_by (params_in st) rs m st frames).state ≡ next_voice (render_of (params_in st) rs) (voice_in k st)
unfolding rendered_by rendered_on
rendered_voice st w rs m laid frames k l =
    let g = whole_playing st w rs m laid in
    let r = render_of (params_in st) rs in
    voice_done (params_in st) r m _ (elapsed_playing g) (params_in st).voices k l (le_refl _) ∙ ap (next_voice r) (voice_same g k)
