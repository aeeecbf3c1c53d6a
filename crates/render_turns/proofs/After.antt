-- What a render needs holds after each voice. Assumes nothing.
use mathlib.Core.Path.{◌≡◌}
use mathlib.Core.List.{List}
use Prim.Native.Nat.{ℕ, zero, suc, ◌≤◌}
use native.Mathlib.Omega.{arith}
use Rattle.rows.specs.Folds.{up_to}
use Rattle.params.specs.declared.params.Params.{Params}
use Rattle.turn.specs.Render.{Render}
use Rattle.voice_turn.specs.Played.{Studio}
use Rattle.voice_render.specs.Laws.{render_renderable, render_others}
use Rattle.render_turns.specs.Turns.{voices_rendered, Playing}

pub playing_after : (p : Params) (r : Render) (m : List ℕ) (x : Studio) → Playing p r m 0 x.state → (k : ℕ) → k ≤ p.voices
    → Playing p r m k (voices_rendered p r m k x).state
unfolding voices_rendered up_to
playing_after p r m x h zero l = h
playing_after p r m x h (suc k) l =
    let g = playing_after p r m x h k (omega arith) in
    let y = voices_rendered p r m k x in
    let playable = g.voices k (omega arith) l in
    record {
      desk = render_renderable g.desk l playable y.buffers y.rounds;
      voices = λ j q b.
          render_others g.desk l playable y.buffers y.rounds j b (λ (e : j ≡ k). omega arith) (g.voices j (omega arith) b);
    }
