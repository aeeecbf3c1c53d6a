-- Renders of the same ranges that are not refused, from two states with voice k in common: they leave it in common, whatever is lent for
-- sample bytes and frames. Assumes nothing.
use mathlib.Core.Path.{◌≡◌, refl, ap, sym, subst, ◌∙◌}
use mathlib.Core.List.{List, [], ◌∷◌, nil≢cons, cons≢nil, head-eq_of_cons-eq, tail-eq_of_cons-eq}
use Prim.Native.Nat.{ℕ, ◌<◌}
use lib.Ieee.{Float}
use Rattle.ranges.specs.Ranges.{Range}
use Rattle.params.specs.declared.params.Params.{Params}
use Rattle.state.specs.State.{State}
use Rattle.voice_render.specs.Next.{voice_rounds}
use Rattle.render.specs.Render.{render_of}
use Rattle.calls.specs.Calls.{RenderOutcome, render_call}
use Rattle.calls.specs.Sections.{section_done}
use Rattle.renders.proofs.Sections.{AllYes, section_yes, yes_done, yes_ascending, section_one}
use Rattle.merging_plays.specs.Own.{Own}
use Rattle.merging_plays.specs.Renders.{Rendering, rendering_from, NoneRefused, SameRanges, RendersAlike}
use Rattle.merging_plays.proofs.Steps.{own_at, params_both, renders_own}

-- a render that is not refused is a section of one, which is done
module _ (st : State) (rs : List Range) (m : List ℕ) (frames : List Float) (yes : (render_call st rs m frames).number ≡ 0) where
  asked : AllYes st 1 rs m frames
  asked = section_yes st 1 rs m frames (ap (λ (o : RenderOutcome). o.number) (section_one st rs m frames) ∙ yes)

  done : (render_call st rs m frames).state ≡ (section_done 1 st rs m frames).state
  done = ap (λ (o : RenderOutcome). o.state) (sym (section_one st rs m frames) ∙ yes_done st 1 rs m frames asked)

module _ {p : Params} {k : ℕ} (h : k < p.voices) where
  render_own : {a b : State} → Own p k a b → (rs : List Range) (m m' : List ℕ) (frames frames' : List Float)
      → (render_call a rs m frames).number ≡ 0 → (render_call b rs m' frames').number ≡ 0
      → Own p k (render_call a rs m frames).state (render_call b rs m' frames').state
  render_own {a} {b} o rs m m' frames frames' e e' =
      let laid = yes_ascending a 1 rs m frames (asked a rs m frames e) in
      let laid' = yes_ascending b 1 rs m' frames' (asked b rs m' frames' e') in
      own_at (done a rs m frames e) (done b rs m' frames' e') (renders_own h rs m m' laid laid' 1 o frames frames')

  next_own : {a b : State} → Own p k a b → (x x' : Rendering) → x.ranges ≡ x'.ranges → (rendering_from a x).number ≡ 0
      → (rendering_from b x').number ≡ 0 → Own p k (rendering_from a x).state (rendering_from b x').state
  next_own {a} {b} o x x' same e =
      subst (λ (rs : List Range). (render_call b rs x'.memory x'.frames).number ≡ 0
      → Own p k (rendering_from a x).state (render_call b rs x'.memory x'.frames).state) same
      (render_own o x.ranges x.memory x'.memory x.frames x'.frames e)

  pub renders_play : {a b : State} → Own p k a b → (xs xs' : List Rendering) → SameRanges xs xs' → NoneRefused a xs → NoneRefused b xs'
      → RendersAlike k a b xs xs'
  renders_play o [] [] same e e' = record { rounds = refl; voice = o.voice }
  renders_play o [] (x' ∷ xs') same e e' = absurd (nil≢cons same)
  renders_play o (x ∷ xs) [] same e e' = absurd (cons≢nil same)
  renders_play {a = a} {b = b} o (x ∷ xs) (x' ∷ xs') same e e' =
      let first : x.ranges ≡ x'.ranges = head-eq_of_cons-eq same in
      let params = params_both h o in
      let rest = renders_play {a = (rendering_from a x).state} {b = (rendering_from b x').state} (next_own o x x' first e.0 e'.0) xs xs' (tail-eq_of_cons-eq same) e.1 e'.1 in
      record { rounds = λ i. voice_rounds (render_of (params i) (first i)) (o.voice i) ∷ rest.rounds i; voice = rest.voice }
