-- A song section in one call (document 02, L6): so many renders one after the other, and the questions asked of it. Definitions only.
use Rattle.std.specs.Prelude.{cond, List, ◌++◌, ℕ, zero, suc, ◌+◌, ◌*◌, leb, Float, length, take, drop}
use Rattle.ranges.specs.Ranges.{Range}
use Rattle.ranges.specs.Questions.{laid_of, near_of}
use Rattle.state.specs.State.{State, params_in}
use Rattle.whole.specs.Whole.{whole_of}
use Rattle.calls.specs.Calls.{RenderOutcome, render_left, render_done}

-- the floats that one render's frames take
abbrev pub wide_in : State → ℕ
wide_in st = 2 * (params_in st).sample_count

-- so many renders of the same ranges and memory: each is of the state that the one before it left, and its frames go behind those before
unfoldable pub section_done : ℕ → State → List Range → List ℕ → List Float → RenderOutcome
unfolding render_done
section_done zero st rs m frames = render_left 0 0 st frames
section_done (suc k) st rs m frames =
    let o = render_done st rs m frames in
    let rest = section_done k o.state rs m (drop (wide_in st) o.frames) in
    render_left 0 (o.rounds + rest.rounds) rest.state (take (wide_in st) o.frames ++ rest.frames)

-- as many renders as one call may ask for
abbrev pub most_renders : ℕ
most_renders = 1024

-- the questions of a render, with 14 before the last: is the count allowed?
unfoldable pub section_call : State → ℕ → List Range → List ℕ → List Float → RenderOutcome
unfolding whole_of section_done
section_call st count rs m frames =
    cond (whole_of st)
    (cond (laid_of (length m) rs)
    (cond (near_of rs)
    (cond (leb count most_renders)
    (cond (leb (count * wide_in st) (length frames)) (section_done count st rs m frames) (render_left 7 0 st frames))
    (render_left 14 0 st frames))
    (render_left 5 0 st frames))
    (render_left 13 0 st frames))
    (render_left 4 0 st frames)
