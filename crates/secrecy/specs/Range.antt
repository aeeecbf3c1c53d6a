-- The frames of every render of a session lie in [-1, 1] or are NaN. Assumes nothing.
use Rattle.std.specs.Prelude.{◌≡◌, Bool, ℕ, zero, suc, ◌*◌, Float}
use Rattle.std.proofs.Common.{sym}
use Rattle.std.proofs.Math.Path.{subst}
use Rattle.std.proofs.Math.Bool.{true, false}
use mathlib.Core.List.{List, [], ◌∷◌}
use Rattle.std.proofs.Math.Dec.{T}
use Rattle.std.proofs.Math.ListN.{replicate}
use Rattle.floats.specs.Defs.{zero32}
use Rattle.ranges.specs.Ranges.{Range}
use Rattle.params.specs.declared.params.Params.{Params}
use Rattle.state.specs.State.{State, params_in}
use Rattle.whole.specs.Whole.{Whole}
use Rattle.sink.specs.Sink.{each}
use Rattle.frames.specs.Laws.{frames_in_range}
use Rattle.desk_render.specs.DeskRender.{frames_by}
use Rattle.voice_turn.specs.Played.{studio}
use Rattle.render_turns.specs.Turns.{voices_rendered}
use Rattle.render.specs.Render.{elapsed, render_of, rendered_on, rendered_by}
use Rattle.render_alike.specs.Render.{frames_first}
use Rattle.calls.specs.Calls.{RenderOutcome, render_done, open_call}
use Rattle.secrecy.specs.Sessions.{Call, update, render, after, frames_by as frames_seen, frames_at}
use Rattle.secrecy.specs.Demand.{begun}
use Rattle.secrecy.specs.Renders.{seen_frames, asked_by, render_is}
use Rattle.secrecy.specs.Kept.{call_fine, session_whole}

by_desk : (p : Params) (words : List ℕ) (floats buffers : List Float) → T (each (frames_by p words floats buffers))
unfolding frames_by
by_desk p words floats buffers = frames_in_range buffers p.sample_count 0 _ _ p.sinks

module _ (st : State) (w : Whole st) where
  render_in : (rs : List Range) (m : List ℕ) (frames : List Float) (t u v : Bool) → T (each (seen_frames st (asked_by t u v st rs m frames)))
  unfolding asked_by render_done rendered_by rendered_on
  render_in rs m frames true true true =
      let p = params_in st in
      let silence = replicate (p.mix_buffers * p.sample_count) zero32 in
      let x = voices_rendered p (render_of p rs) m p.voices (studio (elapsed st) silence 0) in
      subst (λ (f : List Float). T (each f)) (sym (frames_first p x.state x.buffers frames)) (by_desk p _ _ _)
  render_in rs m frames true true false = tt
  render_in rs m frames true false v = tt
  render_in rs m frames false u v = tt

  call_in : (c : Call) → T (each (frames_seen st c))
  call_in (update expected input reply) = tt
  call_in (render rs m frames) =
      subst (λ (o : RenderOutcome). T (each (seen_frames st o))) (sym (render_is st w rs m frames)) (render_in rs m frames _ _ _)

calls_in_lem : (st : State) → Whole st → (cs : List Call) (r : ℕ) → T (each (frames_at st cs r))
calls_in_lem st w [] r = tt
calls_in_lem st w (c ∷ cs) zero = call_in st w c
calls_in_lem st w (c ∷ cs) (suc r) = calls_in_lem (after st c) (call_fine st w c).whole cs r

pub session_in_range : (p : Params) (a : State) → (open_call p a).number ≡ 0 → (cs : List Call) (r : ℕ) → T (each (frames_at (begun p a) cs r))
session_in_range p a o cs = calls_in_lem (begun p a) (session_whole p a o [] zero) cs
