-- `resample::resample` meets its contract: either way `fill` runs over the points of the input. Assumes nothing.
use Rattle.std.proofs.Common.{◌≡◌, ℕ, List, [], ◌∷◌, ◌++◌, get_or, drop, sym, ap, ◌∙◌}
use lib.Ieee.{Float, nan}
use Rattle.resample.specs.Defs.{points_of, samples, resampled}
use Rattle.resample.specs.Laws.{points_short, points_long}
use Rattle.resample.proofs.resample.Goals as goal

over : (left input points out : List Float) (ratio fraction : Float) (count : ℕ)
    → points ≡ points_of input
    → left ≡ samples points ratio fraction count ++ drop count out
    → left ≡ resampled input ratio fraction count ++ drop count out
unfolding resampled
over left input points out ratio fraction count e h = h ∙ ap (λ (ps : List Float). samples ps ratio fraction count ++ drop count out) e

pub returns-then-input-lt4 : goal.returns-then-input-lt4
returns-then-input-lt4 c =
    let xs = c.args.input.now in (
      c.fill.ensures.0,
      over _ xs _ _ _ _ _
          (ap (λ (d : Float). get_or xs 0 nan ∷ get_or xs 1 nan ∷ get_or xs 2 nan ∷ d ∷ []) c.fourth.ensures ∙ sym (points_short xs c.if-input-lt4.true))
          c.fill.ensures.1,
    )

pub returns-else-input-lt4 : goal.returns-else-input-lt4
returns-else-input-lt4 c =
    let xs = c.args.input.now in (
      c.fill-else-input-lt4.ensures.0,
      over _ xs _ _ _ _ _ (sym (points_long xs c.if-input-lt4.false)) c.fill-else-input-lt4.ensures.1,
    )
