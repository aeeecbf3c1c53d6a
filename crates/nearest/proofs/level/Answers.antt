-- `nearest::level` meets its contract: the subtraction stops at 0, and the number at 65535. Assumes nothing.
use mathlib.Core.Path.{◌≡◌, ap, ◌∙◌}
use Prim.Native.Nat.{ℕ, ◌*◌, ◌≤◌, ◌^◌}
use native.Mathlib.Nat.{mul-le-mul}
use native.Mathlib.Omega.{arith}
use Rattle.nearest.specs.Levels.{level_at}
use Rattle.nearest.proofs.level.Goals as goal
use Rattle.nearest.proofs.level.Goals.{After-step_size-p}

module _ (c : After-step_size-p) where
  abbrev r : ℕ
  r = c.args.r

  abbrev predicted : ℕ
  predicted = c.args.predicted

  small : r * c.step_size-p.result ≤ 16 * 32768
  small = mul-le-mul {n₂ = 16} {m₂ = 32768} (omega arith) (omega arith)

  -- with the step's own name
  named : level_at c.step_size-p.result predicted r ≡ level_at (2 ^ c.args.s) predicted r
  named = ap (λ (p : ℕ). level_at p predicted r) c.step_size-p.ensures.0

pub overflow_mul-x : goal.overflow_mul-x
overflow_mul-x c = record { fits = omega (arith, small c) }

pub overflow_add-x : goal.overflow_add-x
overflow_add-x c = record { fits = omega (arith, small c) }

pub returns : goal.returns
returns c = (omega arith ∙ named (goal.at.returns c).After-step_size-p, omega arith)
