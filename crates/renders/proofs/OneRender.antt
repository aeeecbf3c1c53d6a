-- Where the frames of a render stand in the slice that is lent. Assumes nothing.
use mathlib.Core.Path.{◌≡◌, ap, ◌∙◌}
use mathlib.Core.List.{List, ◌++◌}
use Prim.Native.Nat.{ℕ, ◌*◌}
use lib.Ieee.{Float}
use lib.ListN.{length, take, drop, replicate}
use lib.Seq.{take_at, drop_at}
use Rattle.floats.specs.Defs.{zero32}
use Rattle.ranges.specs.Ranges.{Range}
use Rattle.params.specs.declared.params.Params.{Params}
use Rattle.state.specs.State.{State, params_in}
use Rattle.frames.specs.Laws.{length_frames_of}
use Rattle.desk_render.specs.DeskRender.{mixed_by, frames_by}
use Rattle.voice_turn.specs.Played.{Studio, studio}
use Rattle.render_turns.specs.Turns.{voices_rendered}
use Rattle.render.specs.Render.{elapsed, render_of, rendered_on, rendered_by}
use Rattle.calls.specs.Calls.{render_done}
use Rattle.calls.specs.Sections.{wide_in}

-- a desk gives 2 floats for each sample; behind them the slice stays
module _ (p : Params) (words : List ℕ) (floats buffers frames : List Float) where
  abbrev wide : ℕ
  wide = 2 * p.sample_count

  abbrev given : List Float
  given = frames_by p words floats buffers

  given_wide : length given ≡ wide
  unfolding frames_by
  given_wide = length_frames_of buffers p.sample_count 0 _ _ p.sinks

  behind_given : drop wide (given ++ drop wide frames) ≡ drop wide frames
  behind_given = drop_at given (drop wide frames) wide given_wide

  front_wide : length (take wide (given ++ drop wide frames)) ≡ wide
  front_wide = ap length (take_at given (drop wide frames) wide given_wide) ∙ given_wide

module _ (st : State) (rs : List Range) (m : List ℕ) (frames : List Float) where
  -- what all voices leave, and the mix buffers when they are mixed down
  abbrev studio_after : Studio
  studio_after =
      let p = params_in st in
      voices_rendered p (render_of p rs) m p.voices (studio (elapsed st) (replicate (p.mix_buffers * p.sample_count) zero32) 0)

  abbrev mixed_after : List Float
  mixed_after = mixed_by (params_in st) studio_after.state.words studio_after.state.floats studio_after.buffers

  -- of a render that is done: behind its frames the slice stays
  pub done_behind : drop (wide_in st) (render_done st rs m frames).frames ≡ drop (wide_in st) frames
  unfolding render_done rendered_by rendered_on
  done_behind = behind_given (params_in st) studio_after.state.words studio_after.state.floats mixed_after frames

  -- and its frames fill their place
  pub done_front : length (take (wide_in st) (render_done st rs m frames).frames) ≡ wide_in st
  unfolding render_done rendered_by rendered_on
  done_front = front_wide (params_in st) studio_after.state.words studio_after.state.floats mixed_after frames
