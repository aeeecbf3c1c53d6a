-- A call that is refused leaves the state as it was, and declares and routes nothing. Assumes nothing.
use Rattle.std.specs.Prelude.{◌≡◌, Bool, cond, List, [], ℕ, leb, eqb, Float, length}
use Rattle.std.proofs.Math.Path.{refl}
use Rattle.std.proofs.Common.{true≢false}
use Rattle.std.proofs.Math.Bool.{true, false}
use Rattle.ranges.specs.Ranges.{Range}
use Rattle.ranges.specs.Questions.{laid_of, near_of}
use Rattle.params.specs.Sizes.{reply_length}
use Rattle.state.specs.State.{State, params_in}
use Rattle.whole.specs.Whole.{whole_of}
use Rattle.calls.specs.Calls.{update_left, update_done, update_call, render_left, render_done, render_call}
use Rattle.secrecy.specs.Sessions.{Call, update, render, shape, after, succeeds}
use Rattle.secrecy.specs.Declared.{spans_by, declares, routes_by, routing}
use Rattle.secrecy.specs.Renders.{room_for, asked_by}

-- ---- by the questions' answers

module _ (st : State) where
  update_by : (expected : ℕ) (input reply : List ℕ) (t u : Bool)
      → (let o = cond t (cond u (update_done st expected input reply) (update_left 6 0 st reply)) (update_left 4 0 st reply) in eqb o.number 0 ≡ false → o.state ≡ st)
  unfolding update_done
  update_by expected input reply true true h = absurd (true≢false h)
  update_by expected input reply true false h = refl
  update_by expected input reply false u h = refl

  render_by : (rs : List Range) (m : List ℕ) (frames : List Float) (t u v w : Bool)
      → (let o = cond t (asked_by u v w st rs m frames) (render_left 4 0 st frames) in eqb o.number 0 ≡ false → o.state ≡ st)
  unfolding asked_by render_done
  render_by rs m frames true true true true h = absurd (true≢false h)
  render_by rs m frames true true true false h = refl
  render_by rs m frames true true false w h = refl
  render_by rs m frames true false v w h = refl
  render_by rs m frames false u v w h = refl

  -- ---- a call

  pub refused_leaves : (c : Call) → succeeds st c ≡ false → after st c ≡ st
  unfolding update_call render_call asked_by
  refused_leaves (update expected input reply) = update_by expected input reply (whole_of st) (leb (reply_length (params_in st) expected) (length reply))
  refused_leaves (render rs m frames) =
      render_by rs m frames (whole_of st) (laid_of (length m) rs) (near_of rs) (room_for st frames)

  pub refused_declares : (c : Call) (k : ℕ) → succeeds st c ≡ false → declares st c k ≡ []
  refused_declares c k h = λ i. cond (h i) (spans_by st (shape c) k) []

  pub refused_routes : (c : Call) (k : ℕ) → succeeds st c ≡ false → routing st c k ≡ false
  refused_routes c k h = λ i. cond (h i) (routes_by st (shape c) k) false
