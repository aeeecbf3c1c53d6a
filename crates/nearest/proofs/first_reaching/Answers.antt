-- `nearest::first_reaching` meets its contract. Assumes nothing.
use mathlib.Core.Path.{◌≡◌, sym, ap, ◌∙◌}
use Prim.Native.Nat.{ℕ, ◌+◌, ◌*◌, ◌-◌, ◌/◌, ◌<◌, ◌^◌, min}
use native.Mathlib.Omega.{arith}
use Rattle.nearest.specs.Levels.{origin_of, reach_of}
use Rattle.nearest.proofs.Reach.{reach_none, reach_some}
use Rattle.nearest.proofs.first_reaching.Goals as goal
use Rattle.nearest.proofs.first_reaching.Goals.{After-step_size-p}

module _ (c : After-step_size-p) where
  abbrev p : ℕ
  p = c.step_size-p.result

  abbrev predicted : ℕ
  predicted = c.args.predicted

  abbrev t : ℕ
  t = c.args.t

  abbrev steps : ℕ
  steps = (t + 8 * p + 2064384 - predicted + (p - 1)) / 2 ^ c.args.s

  named : reach_of p predicted t ≡ reach_of (2 ^ c.args.s) predicted t
  named = ap (λ (n : ℕ). reach_of n predicted t) c.step_size-p.ensures.0

  found : predicted < t + origin_of p → min 16 steps ≡ reach_of (2 ^ c.args.s) predicted t
  found h =
      let e : t + 8 * p + 2064384 - predicted + (p - 1) ≡ t + origin_of p - predicted + (p - 1) = omega arith in
      reach_some p predicted t steps h (λ i. e i / sym c.step_size-p.ensures.0 i) ∙ named

pub returns-then-need-predicted : goal.returns-then-need-predicted
returns-then-need-predicted c = reach_none _ _ _ (omega arith) ∙ named (goal.at.returns-then-need-predicted c).After-step_size-p

pub returns : goal.returns
returns c = omega arith ∙ found (goal.at.returns c).After-step_size-p (omega arith)
