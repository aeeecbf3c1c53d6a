-- What each call answers and leaves: its questions (docs/QUESTIONS.md) in their sequence, each "no" with its number, and what is done where all are answered "yes".
-- A refusal's other results are 0, and the state and the lent slice stay. Definitions only.
use Rattle.std.specs.Prelude.{Bool, cond, List, [], ℕ, ◌*◌, leb, Float, length}
use Rattle.rows.specs.Rows.{put}
use Rattle.ranges.specs.Ranges.{Range}
use Rattle.ranges.specs.Questions.{laid_of, near_of}
use Rattle.params.specs.declared.params.Params.{Params}
use Rattle.params.specs.Sizes.{reply_length}
use Rattle.state.specs.declared.Places.{Places}
use Rattle.state.specs.State.{State, places_of, params_in}
use Rattle.whole.specs.Counts.{samples_allowed, counts_allowed}
use Rattle.whole.specs.Whole.{sized_of, whole_of}
use Rattle.opened.specs.Opened.{opened}
use Rattle.updates.specs.Update.{updated, update_reply}
use Rattle.desk_order.specs.declared.listed.MixOrder.{MixOrder}
use Rattle.desk_order.specs.Listed.{listed_of}
use Rattle.desk_render.specs.DeskRender.{order_by}
use Rattle.render.specs.Render.{Rendered, rendered_by}

-- ---- lengths: how long the five slices of a state must be

pub record LengthsOutcome : Type 0 where
  pub number : ℕ
  pub words : ℕ
  pub longs : ℕ
  pub floats : ℕ
  pub contexts : ℕ
  pub history : ℕ

abbrev pub lengths_refused : ℕ → LengthsOutcome
lengths_refused n = record { number = n; words = 0; longs = 0; floats = 0; contexts = 0; history = 0 }

abbrev pub lengths_given : Places → LengthsOutcome
lengths_given at = record { number = 0; words = at.words; longs = at.longs; floats = at.floats; contexts = at.contexts; history = at.history }

unfoldable pub lengths_call : Params → LengthsOutcome
unfolding samples_allowed counts_allowed places_of
lengths_call p = cond (samples_allowed p) (cond (counts_allowed p) (lengths_given (places_of p)) (lengths_refused 2)) (lengths_refused 1)

-- ---- reply_length: how long the reply is to a title that expects so many bytes

pub record LengthOutcome : Type 0 where
  pub number : ℕ
  pub size : ℕ

abbrev pub length_left : ℕ → ℕ → LengthOutcome
length_left n size = record { number = n; size = size }

unfoldable pub reply_length_call : Params → ℕ → LengthOutcome
unfolding samples_allowed counts_allowed reply_length
reply_length_call p expected =
    cond (samples_allowed p) (cond (counts_allowed p) (length_left 0 (reply_length p expected)) (length_left 2 0)) (length_left 1 0)

-- ---- open

pub record OpenOutcome : Type 0 where
  pub number : ℕ
  pub state : State

abbrev pub open_left : ℕ → State → OpenOutcome
open_left n st = record { number = n; state = st }

unfoldable pub open_call : Params → State → OpenOutcome
unfolding samples_allowed counts_allowed places_of opened
open_call p st =
    cond (samples_allowed p) (cond (counts_allowed p) (cond (sized_of (places_of p) st) (open_left 0 (opened p)) (open_left 3 st)) (open_left 2 st)) (open_left 1 st)

-- ---- update: the length of its reply, the state, and the reply slice

pub record UpdateOutcome : Type 0 where
  pub number : ℕ
  pub size : ℕ
  pub state : State
  pub reply : List ℕ

abbrev pub update_left : ℕ → ℕ → State → List ℕ → UpdateOutcome
update_left n size st reply = record { number = n; size = size; state = st; reply = reply }

-- the reply goes to the front of the slice
unfoldable pub update_done : State → ℕ → List ℕ → List ℕ → UpdateOutcome
unfolding updated update_reply reply_length
update_done st expected input reply =
    let p = params_in st in
    let after = updated p input st in
    update_left 0 (reply_length p expected) after (put reply 0 (update_reply p expected input after))

unfoldable pub update_call : State → ℕ → List ℕ → List ℕ → UpdateOutcome
unfolding whole_of update_done reply_length
update_call st expected input reply =
    cond (whole_of st)
    (cond (leb (reply_length (params_in st) expected) (length reply)) (update_done st expected input reply) (update_left 6 0 st reply))
    (update_left 4 0 st reply)

-- ---- render: the rounds that its fetches took, the state, and the frame slice

pub record RenderOutcome : Type 0 where
  pub number : ℕ
  pub rounds : ℕ
  pub state : State
  pub frames : List Float

abbrev pub render_left : ℕ → ℕ → State → List Float → RenderOutcome
render_left n rounds st frames = record { number = n; rounds = rounds; state = st; frames = frames }

unfoldable pub render_done : State → List Range → List ℕ → List Float → RenderOutcome
unfolding rendered_by
render_done st rs m frames =
    let r = rendered_by (params_in st) rs m st frames in
    render_left 0 r.rounds r.state r.frames

-- memory is the bytes m in ranges; question 5 is asked of every range
unfoldable pub render_call : State → List Range → List ℕ → List Float → RenderOutcome
unfolding whole_of render_done
render_call st rs m frames =
    cond (whole_of st)
    (cond (laid_of (length m) rs)
    (cond (near_of rs)
    (cond (leb (2 * (params_in st).sample_count) (length frames)) (render_done st rs m frames) (render_left 7 0 st frames))
    (render_left 5 0 st frames))
    (render_left 13 0 st frames))
    (render_left 4 0 st frames)

-- ---- mix_order: the sub_mixes that a render runs, in their sequence; the state stays

pub record OrderOutcome : Type 0 where
  pub number : ℕ
  pub order : MixOrder

abbrev pub order_given : MixOrder → OrderOutcome
order_given xs = record { number = 0; order = xs }

abbrev pub order_refused : ℕ → OrderOutcome
order_refused n = record { number = n; order = listed_of [] }

unfoldable pub order_call : State → OrderOutcome
unfolding whole_of order_by
order_call st = cond (whole_of st) (order_given (listed_of (order_by (params_in st) st.words))) (order_refused 4)
