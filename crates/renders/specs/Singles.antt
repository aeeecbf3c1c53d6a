-- Single renders one after the other, as a section is to be read. Definitions only.
use Rattle.std.specs.Prelude.{List, [], ◌∷◌, ◌++◌, ℕ, zero, suc, ◌+◌, Float, take, drop}
use Rattle.ranges.specs.Ranges.{Range}
use Rattle.state.specs.State.{State}
use Rattle.calls.specs.Calls.{RenderOutcome, render_call}

-- so many calls of `render` on the same ranges and memory: each is of the state that the one before it left, and is lent the slice from
-- `wide` floats further on
unfoldable pub singles : ℕ → ℕ → State → List Range → List ℕ → List Float → List RenderOutcome
singles zero wide st rs m frames = []
singles (suc k) wide st rs m frames =
    let o = render_call st rs m frames in
    o ∷ singles k wide o.state rs m (drop wide frames)

-- of outcomes: their rounds in sum, the state that the last one left (where there is none, the state before), and the first `wide` floats
-- of each, one behind the other
unfoldable pub rounds_of : List RenderOutcome → ℕ
rounds_of [] = 0
rounds_of (o ∷ os) = o.rounds + rounds_of os

unfoldable pub state_left : State → List RenderOutcome → State
state_left st [] = st
state_left st (o ∷ os) = state_left o.state os

unfoldable pub fronts_of : ℕ → List RenderOutcome → List Float
fronts_of wide [] = []
fronts_of wide (o ∷ os) = take wide o.frames ++ fronts_of wide os
