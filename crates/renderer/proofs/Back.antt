-- What a caller's own slices hold after a call that was lent a struct of them. Assumes nothing.
use mathlib.Core.Path.{◌≡◌, ◌∙◌}
use mathlib.Core.List.{List}
use Prim.Native.Nat.{ℕ}
use lib.Ieee.{Float}
use Rattle.state.specs.State.{state_of}
use Rattle.slices.specs.declared.Slices.{Slices}
use Rattle.slices.specs.Slices.{held}
use Rattle.calls.specs.Calls.{OpenOutcome, UpdateOutcome, open_left, update_left}

module _ (s : Slices) {w l x : List ℕ} {f h : List Float} where
  state_back : w ≡ s.words.now → l ≡ s.longs.now → f ≡ s.floats.now → x ≡ s.contexts.now → h ≡ s.history.now
      → state_of w l f x h ≡ held s
  state_back ew el ef ex eh = λ i. state_of (ew i) (el i) (ef i) (ex i) (eh i)

  pub open_back : {z : OpenOutcome} → open_left 0 (held s) ≡ z
      → w ≡ s.words.now → l ≡ s.longs.now → f ≡ s.floats.now → x ≡ s.contexts.now → h ≡ s.history.now
      → open_left 0 (state_of w l f x h) ≡ z
  open_back e ew el ef ex eh = (λ i. open_left 0 (state_back ew el ef ex eh i)) ∙ e

  pub update_back : {size : ℕ} {y : List ℕ} {z : UpdateOutcome} → update_left 0 size (held s) y ≡ z
      → w ≡ s.words.now → l ≡ s.longs.now → f ≡ s.floats.now → x ≡ s.contexts.now → h ≡ s.history.now
      → update_left 0 size (state_of w l f x h) y ≡ z
  update_back {size} {y} e ew el ef ex eh = (λ i. update_left 0 size (state_back ew el ef ex eh i) y) ∙ e
