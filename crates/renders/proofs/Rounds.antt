-- A render takes at most 64 rounds for each voice. Assumes nothing.
use mathlib.Core.List.{List}
use Prim.Native.Nat.{ℕ, zero, suc, ◌+◌, ◌*◌, ◌≤◌}
use native.Mathlib.Omega.{arith}
use lib.Ieee.{Float}
use lib.ListN.{length, replicate}
use Rattle.floats.specs.Defs.{zero32}
use Rattle.rows.specs.Folds.{up_to}
use Rattle.ranges.specs.Ranges.{Range}
use Rattle.ranges.specs.Ascending.{Ascending}
use Rattle.params.specs.declared.params.Params.{Params}
use Rattle.state.specs.State.{State, params_in}
use Rattle.whole.specs.Whole.{Whole}
use Rattle.turn.specs.Render.{Render}
use Rattle.state_voices.specs.StateVoices.{voice_in}
use Rattle.voice_turn.specs.Played.{Studio, studio}
use Rattle.voice_render.specs.Next.{voice_rounds_lem}
use Rattle.voice_render.specs.Laws.{render_step_lem}
use Rattle.render_turns.specs.Turns.{voices_rendered, Playing}
use Rattle.render_turns.proofs.After.{playing_after}
use Rattle.render.specs.Render.{elapsed, render_of, rendered_on, rendered_by}
use Rattle.render.specs.Laws.{elapsed_playing}
use Rattle.render.specs.FromWhole.{whole_playing}

-- k voices in turn
voices_few : (p : Params) (r : Render) (m : List ℕ) (x : Studio) → Playing p r m 0 x.state → (k : ℕ) → k ≤ p.voices
    → (voices_rendered p r m k x).rounds ≤ x.rounds + k * 64
unfolding voices_rendered up_to
voices_few p r m x h zero l = omega arith
voices_few p r m x h (suc k) l =
    let y = voices_rendered p r m k x in
    let g = playing_after p r m x h k (omega arith) in
    let s = render_step_lem g.desk l (g.voices k (omega arith) l) y.buffers y.rounds in
    omega (arith, voices_few p r m x h k (omega arith), s.total, voice_rounds_lem r (voice_in k y.state))

pub render_few : (st : State) → Whole st → (rs : List Range) (m : List ℕ) → Ascending (length m) 0 rs → (frames : List Float)
    → (rendered_by (params_in st) rs m st frames).rounds ≤ (params_in st).voices * 64
unfolding rendered_by rendered_on
render_few st w rs m laid frames =
    let p = params_in st in
    let x = studio (elapsed st) (replicate (p.mix_buffers * p.sample_count) zero32) 0 in
    let few = voices_few p (render_of p rs) m x (elapsed_playing (whole_playing st w rs m laid)) p.voices (omega arith) in
    omega (arith, few)
