-- A session: an open that succeeds, and then any list of updates and renders. The first gets the state that the open made, each later one what the call
-- before it left. Definitions only.
use Rattle.std.specs.Prelude.{Bool, cond, List, [], ◌∷◌, ℕ, zero, suc, ◌*◌, eqb, Float, length, take}
use Rattle.ranges.specs.Ranges.{Range}
use Rattle.state.specs.State.{State, params_in}
use Rattle.calls.specs.Calls.{update_call, render_call}

-- ---- calls

pub data Call : Type 0 where
  -- the expected size, the input, and the reply slice as it is lent
  update : ℕ → List ℕ → List ℕ → Call
  -- the ranges of sample memory and the slice of bytes that they are parts of, and the frame slice as it is lent
  render : List Range → List ℕ → List Float → Call

-- a call without its sample bytes, and without what its reply or frame slice holds: of memory the base and the part of each range and the
-- slice's length
pub data Shape : Type 0 where
  updates : ℕ → List ℕ → ℕ → Shape
  renders : List Range → ℕ → ℕ → Shape

abbrev pub shape : Call → Shape
shape (update expected input reply) = updates expected input (length reply)
shape (render rs m frames) = renders rs (length m) (length frames)

-- ---- what is left of a call, and what is seen of it

abbrev pub after : State → Call → State
after st (update expected input reply) = (update_call st expected input reply).state
after st (render rs m frames) = (render_call st rs m frames).state

-- 0 where it succeeds, or the refusal's number; an update's reply, its length and its bytes; a render's rounds
pub record Said : Type 0 where
  pub number : ℕ
  pub size : ℕ
  pub reply : List ℕ
  pub rounds : ℕ

abbrev pub said : State → Call → Said
said st (update expected input reply) =
    let o = update_call st expected input reply in
    record { number = o.number; size = o.size; reply = take o.size o.reply; rounds = 0 }
said st (render rs m frames) =
    let o = render_call st rs m frames in
    record { number = o.number; size = 0; reply = []; rounds = o.rounds }

abbrev pub succeeds : State → Call → Bool
succeeds st c = eqb (said st c).number 0

-- the 2 * samples floats of a render that succeeds
abbrev pub frames_by : State → Call → List Float
frames_by st (update expected input reply) = []
frames_by st (render rs m frames) =
    let o = render_call st rs m frames in
    cond (eqb o.number 0) (take (2 * (params_in st).sample_count) o.frames) []

-- ---- a list of calls, from a state

abbrev pub state_at : State → List Call → ℕ → State
state_at st [] r = st
state_at st (c ∷ cs) zero = st
state_at st (c ∷ cs) (suc r) = state_at (after st c) cs r

abbrev pub said_all : State → List Call → List Said
said_all st [] = []
said_all st (c ∷ cs) = said st c ∷ said_all (after st c) cs

abbrev pub frames_at : State → List Call → ℕ → List Float
frames_at st [] r = []
frames_at st (c ∷ cs) zero = frames_by st c
frames_at st (c ∷ cs) (suc r) = frames_at (after st c) cs r
