-- A render (mixer.rs `render`): every voice in turn, then the sub_mixes and the sink. Definitions only.
use Rattle.std.specs.Prelude.{ℕ, ◌+◌, ◌*◌, ◌%◌, ◌^◌, List, ◌++◌, drop, replicate, nat_le, slice_index, slice_set, Float}
use Rattle.floats.specs.Defs.{zero32}
use Rattle.params.specs.declared.params.Params.{Params}
use Rattle.params.specs.Sizes.{revision_of}
use Rattle.state.specs.State.{State, state_of}
use Rattle.ranges.specs.Ranges.{Range}
use Rattle.turn.specs.Render.{Render}
use Rattle.voice_turn.specs.Played.{Studio, studio}
use Rattle.render_turns.specs.Turns.{voices_rendered}
use Rattle.desk_render.specs.DeskRender.{mixed_by, frames_by}

-- one render more has elapsed; the count goes round at 2 ^ 64
unfoldable pub elapsed : State → State
elapsed st = state_of st.words (slice_set st.longs 0 ((slice_index st.longs 0 + 1) % 2 ^ 64)) st.floats st.contexts st.history

-- what a render gives to each voice: revision 8 has wave buffers with loop points of their own
unfoldable pub render_of : Params → List Range → Render
render_of p rs = record {
  sample_count = p.sample_count;
  sample_rate = p.sample_rate;
  buffers_v2 = nat_le 8 (revision_of p);
  ranges = rs;
}

-- what a render leaves: the state, the rounds of its fetches, and the frame slice
pub record Rendered : Type 0 where
  pub state : State
  pub rounds : ℕ
  pub frames : List Float

abbrev pub rendered : State → ℕ → List Float → Rendered
rendered st rounds frames = record { state = st; rounds = rounds; frames = frames }

-- the frames, left and right of each by turns, from the desk and the mix buffers after all voices; the rest of the slice stays
abbrev pub frames_on : Params → List ℕ → List Float → List Float → List Float → List Float
frames_on p words floats buffers frames = frames_by p words floats (mixed_by p words floats buffers) ++ drop (2 * p.sample_count) frames

abbrev pub frames_after : Params → State → List Float → List Float → List Float
frames_after p st buffers frames = frames_on p st.words st.floats buffers frames

-- from mix buffers as they are given
unfoldable pub rendered_on : Params → Render → List ℕ → State → List Float → List Float → Rendered
rendered_on p r m st buffers frames =
    let x = voices_rendered p r m p.voices (studio (elapsed st) buffers 0) in
    rendered x.state x.rounds (frames_after p x.state x.buffers frames)

-- a render: the mix buffers are silent before it
unfoldable pub rendered_by : Params → List Range → List ℕ → State → List Float → Rendered
rendered_by p rs m st frames = rendered_on p (render_of p rs) m st (replicate (p.mix_buffers * p.sample_count) zero32) frames
