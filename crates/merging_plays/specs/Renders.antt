-- Renders one after the other, none of them refused, and what they make of voice k. Definitions only.
use Rattle.std.specs.Prelude.{◌≡◌, List, [], ◌∷◌, map, ℕ, Float}
use Rattle.ranges.specs.Ranges.{Range}
use Rattle.state.specs.State.{State, params_in}
use Rattle.state_voices.specs.StateVoices.{voice_in}
use Rattle.voice_render.specs.Next.{voice_rounds}
use Rattle.render.specs.Render.{render_of}
use Rattle.calls.specs.Calls.{RenderOutcome, render_call}

-- the ranges of sample memory and the slice of bytes that they are parts of, and the frame slice as it is lent
pub record Rendering : Type 0 where
  pub ranges : List Range
  pub memory : List ℕ
  pub frames : List Float

abbrev pub rendering_from : State → Rendering → RenderOutcome
rendering_from st x = render_call st x.ranges x.memory x.frames

abbrev pub after_renders : State → List Rendering → State
after_renders st [] = st
after_renders st (x ∷ xs) = after_renders (rendering_from st x).state xs

-- none is refused
abbrev pub NoneRefused : State → List Rendering → Type 0
NoneRefused st [] = Unit {0}
NoneRefused st (x ∷ xs) = ((rendering_from st x).number ≡ 0) × NoneRefused (rendering_from st x).state xs

-- the rounds of voice k in each
abbrev pub rounds_each : ℕ → State → List Rendering → List ℕ
rounds_each k st [] = []
rounds_each k st (x ∷ xs) = voice_rounds (render_of (params_in st) x.ranges) (voice_in k st) ∷ rounds_each k (rendering_from st x).state xs

-- the same ranges, render by render; bytes, and the lengths of slices, may differ
abbrev pub SameRanges : List Rendering → List Rendering → Type 0
SameRanges xs xs' = map (λ x. x.ranges) xs ≡ map (λ x. x.ranges) xs'

-- two lists, each from a state of its own: voice k takes the same rounds in each render, and is the same after them
pub record RendersAlike (k : ℕ) (a b : State) (xs xs' : List Rendering) : Type 0 where
  pub rounds : rounds_each k a xs ≡ rounds_each k b xs'
  pub voice : voice_in k (after_renders a xs) ≡ voice_in k (after_renders b xs')
