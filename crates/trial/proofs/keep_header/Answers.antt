-- `trial::keep_header` meets its contract: no header so far has a sum below the limit. Assumes nothing.
use Prim.Native.Nat.{ℕ, ◌+◌, ◌<◌}
use native.Mathlib.Omega.{arith}
use mir.Syntax.{w16}
use mir.Val.{to_z, of_z}
use mir.Facts.{to_z-of_z}
use Rattle.trial.specs.Trial.{error_of}
use Rattle.trial.proofs.Keeping.{keeps_by, keep_begin, keep_more, keep_end}
use Rattle.trial.proofs.keep_header.Goals as goal
use Rattle.trial.proofs.keep_header.Goals.{After-try_header-known}

-- the seed's sum is below the first limit: no frame's sum reaches the limit that it was tried with
module _ (c : After-try_header-known) where
  abbrev sum_with : ℕ → ℕ
  sum_with = error_of c.args.coefficients.now c.args.samples.now (to_z w16 (of_z w16 c.args.h0)) (to_z w16 (of_z w16 c.args.h1))

  seed_below : sum_with c.args.seed < c.try_header-known.result + 1
  seed_below = omega (arith, c.try_header-known.ensures.0, c.try_header-known.ensures.1)

pub loop-b-init : goal.loop-b-init
loop-b-init c = keep_begin (error_of _ _ _ _) _

pub loop-b-preserved : goal.loop-b-preserved
loop-b-preserved c =
    let l = c.loop-b in
    let more : l.b < 128 = omega (arith, c.loop-b-test.true) in
    keep_more _ _ l.kept l.b _ l.invariant c.try_header-error.ensures.0 _ more c.better-kept.ensures

pub returns : goal.returns
returns c =
    let l = c.loop-b in
    keeps_by (to_z-of_z c.ranges.h0) (to_z-of_z c.ranges.h1)
    (keep_end _ _ _ _ c.args.seed _ l.kept l.b (omega arith) (seed_below (goal.at.returns c).After-try_header-known) c.loop-b-test.false l.invariant)
