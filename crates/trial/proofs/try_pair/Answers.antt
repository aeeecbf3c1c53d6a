-- `trial::try_pair` meets its contract: what is left to add is the sum from here on. Assumes nothing.
use mathlib.Core.Path.{◌≡◌, ◌∙◌}
use mathlib.Core.List.{List}
use Prim.Native.Nat.{ℕ, min}
use native.Mathlib.Omega.{arith}
use lib.IntN.{ℤ, pos}
use lib.ListN.{get_or}
use mir.Syntax.{w16}
use mir.Val.{to_z, of_z}
use mir.Facts.{to_z-of_z}
use Rattle.nearest.proofs.Nearest.{chosen_fits}
use Rattle.trial.specs.Trial.{sum_of}
use Rattle.trial.proofs.Trying.{fits_again, try_begin, try_cut, try_more, try_end}
use Rattle.trial.proofs.try_pair.Goals as goal
use Rattle.trial.proofs.try_pair.Goals.{Start}

module _ (c : Start) where
  abbrev s : ℕ
  s = c.args.s

  abbrev ts : List ℤ
  ts = c.args.samples.now

  abbrev total : ℕ
  total = sum_of s c.args.c c.args.d ts c.args.h0 c.args.h1

  -- the arguments as the loop has them, and as the contract has them
  named : sum_of s (to_z w16 (of_z w16 c.args.c)) (to_z w16 (of_z w16 c.args.d)) ts
      (to_z w16 (of_z w16 c.args.h0)) (to_z w16 (of_z w16 c.args.h1))
      ≡ total
  named =
      let f = c.ranges in λ i. sum_of s (to_z-of_z f.c i) (to_z-of_z f.d i) ts (to_z-of_z f.h0 i) (to_z-of_z f.h1 i)

  least : (sum : ℕ) {whole : ℕ} → sum ≡ min c.args.limit whole → whole ≡ total → sum ≡ min c.args.limit total
  least sum e n = e ∙ (λ i. min c.args.limit (n i))

pub loop-x-init : goal.loop-x-init
loop-x-init c = try_begin _ _ _ _ _ _ (fits_again c.ranges.h0) (fits_again c.ranges.h1)

pub returns-then-limit-sum : goal.returns-then-limit-sum
returns-then-limit-sum c = (
  least (goal.at.returns-then-limit-sum c).Start _ (try_cut _ _ _ _ _ _ _ _ _ _ c.loop-x.invariant _ c.if-limit-sum.true) (named (goal.at.returns-then-limit-sum c).Start),
  omega (arith, c.if-limit-sum.true, c.loop-x.invariant.most, c.loop-x.invariant.count),
)

pub square-sum-requires : goal.square-sum-requires
square-sum-requires c = c.choose_nibble-next.ensures.small

pub overflow_add-sum : goal.overflow_add-sum
overflow_add-sum c =
    let l = c.loop-x.invariant in
    record { fits = omega (arith, l.most, l.count, c.square-sum.ensures.1) }

pub loop-x-preserved : goal.loop-x-preserved
loop-x-preserved c =
    let q = c.square-sum in
    let sample = to_z-of_z {w = w16} {z = get_or c.args.samples.now c.loop-x.x-index (pos 0)} (record { sfits = omega arith }) in
    try_more _ _ _ _ _ _ _ _ _ _ c.loop-x.invariant c.loop-x-test.true _ sample
    _ _ _ c.choose_nibble-next.ensures _ q.ensures.0 _ (to_z-of_z (chosen_fits c.choose_nibble-next.ensures)) q.ensures.1

pub returns : goal.returns
returns c = (
  c.min.ensures ∙ least (goal.at.returns c).Start _ (try_end _ _ _ _ _ _ _ _ _ _ c.loop-x.invariant c.args.limit (omega arith)) (named (goal.at.returns c).Start),
  omega (arith, c.min.ensures, c.loop-x.invariant.most, c.loop-x.invariant.count),
)
