-- What a render of a whole state does by its questions, and what two of them at the same place of two sessions have alike. Assumes nothing.
use Rattle.std.specs.Prelude.{◌≡◌, Bool, cond, ℕ, ◌*◌, leb, eqb, Float, length}
use mathlib.Core.List.{List, []}
use Rattle.std.proofs.Math.ListN.{take}
use Rattle.ranges.specs.Ranges.{Range}
use Rattle.ranges.specs.Questions.{laid_of, near_of}
use Rattle.params.specs.declared.params.Params.{Params}
use Rattle.state.specs.State.{State, params_in}
use Rattle.whole.specs.Whole.{Whole, whole_is}
use Rattle.state_voices.specs.StateVoices.{voice_in}
use Rattle.alike.specs.Alike.{Named}
use Rattle.calls.specs.Calls.{RenderOutcome, render_left, render_done, render_call}
use Rattle.secrecy.specs.Both.{Both}

-- the frames that are seen
abbrev pub seen_frames : State → RenderOutcome → List Float
seen_frames st o = cond (eqb o.number 0) (take (2 * (params_in st).sample_count) o.frames) []

pub record RenderCallsAlike (p : Params) (P : ℕ → Type 0) (a b : State) (x y : RenderOutcome) : Type 0 where
  pub number : x.number ≡ y.number
  pub rounds : x.rounds ≡ y.rounds
  pub both : Both p P x.state y.state
  pub frames : Named p P (λ k. voice_in k a) → seen_frames a x ≡ seen_frames b y

-- what a render of a whole state does, by questions 13, 5 and 7
unfoldable pub asked_by : Bool → Bool → Bool → State → List Range → List ℕ → List Float → RenderOutcome
unfolding render_done
asked_by laid near room st rs m frames =
    cond laid
    (cond near (cond room (render_done st rs m frames) (render_left 7 0 st frames)) (render_left 5 0 st frames))
    (render_left 13 0 st frames)

-- whether there is room for the frames
abbrev pub room_for : State → List Float → Bool
room_for st frames = leb (2 * (params_in st).sample_count) (length frames)

-- the call is that, by the answers to the three
pub render_is : (st : State) → Whole st → (rs : List Range) (m : List ℕ) (frames : List Float)
    → render_call st rs m frames ≡ asked_by (laid_of (length m) rs) (near_of rs) (room_for st frames) st rs m frames
unfolding render_call asked_by
render_is st w rs m frames = rw (whole_is st w)
