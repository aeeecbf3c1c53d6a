-- That ranges ascend is shown in one way only. Assumes nothing.
use Rattle.std.specs.Prelude.{ℕ, List}
use Rattle.std.specs.Coded.{le_prop}
use Rattle.ranges.specs.Ranges.{Range}
use Rattle.ranges.specs.Ascending.{Ascending, none, more}

pub ascending_prop : (n e : ℕ) (rs : List Range) → IsProp (Ascending n e rs)
ascending_prop n e _ none none = λ i. none
ascending_prop n e _ (more {rs = rs} a p q s) (more b p' q' t) =
    λ i. more (le_prop a b i) (le_prop p p' i) (le_prop q q' i) (ascending_prop n _ rs s t i)
