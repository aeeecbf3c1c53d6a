-- `nearest::nearest_rank` meets its contract: each way gives the first of the nearest. Assumes nothing.
use mathlib.Core.Path.{◌≡◌, refl, sym, ap, subst, ◌∙◌}
use mathlib.Core.Bool.{cond}
use Prim.Native.Nat.{ℕ, ◌+◌, ◌-◌, ◌≤◌, ◌<◌, ◌^◌}
use native.Mathlib.Nat.{one-le-pow}
use native.Mathlib.Omega.{arith}
use lib.Dec.{eqb}
use Rattle.nearest.specs.Least.{First}
use Rattle.nearest.specs.Levels.{level_at, away_at, NearestRank}
use Rattle.nearest.proofs.Least.{first_least}
use Rattle.nearest.proofs.Reach.{Reaches, reach_is, under, over, quick_none, quick_under, quick_alike, quick_up}
use Rattle.nearest.proofs.nearest_rank.Goals as goal
use Rattle.nearest.proofs.nearest_rank.Goals.{After-first_reaching-u, After-level-y, After-level-z}

-- a place that is the first of the least is the one of the contract
least_is : (p predicted t rank level best : ℕ) → rank ≡ best → First (away_at p predicted t) 15 best → level ≡ level_at p predicted best
    → NearestRank p predicted t rank level
least_is p predicted t rank level best e f l = record {
  rank_is = e ∙ first_least (away_at p predicted t) 15 best f;
  level_is = l ∙ ap (level_at p predicted) (sym e);
  few = omega (arith, f.within);
}

module _ (c : After-first_reaching-u) where
  abbrev p : ℕ
  p = 2 ^ c.args.s

  abbrev predicted : ℕ
  predicted = c.args.predicted

  abbrev t : ℕ
  t = c.args.t

  abbrev u : ℕ
  u = c.first_reaching-u.result

  some : 0 < p
  some = one-le-pow c.args.s 2 (omega arith)

  up : Reaches p predicted t u
  up = subst (Reaches p predicted t) (sym c.first_reaching-u.ensures) (reach_is p predicted t some)

  small : t ≤ 65535
  small = omega arith

  -- how far the sample of a rank is from t
  abbrev away : ℕ → ℕ
  away = away_at p predicted t

  abbrev level_of : ℕ → ℕ
  level_of = level_at p predicted

-- the rank before u, and its sample
module _ (c : After-level-y) where
  abbrev low : ℕ
  low = u c.before.before - 1

  before : u c.before.before ≡ low + 1
  before = omega arith

  y_is : c.level-y.result ≡ level_of c.before.before low
  y_is = c.level-y.ensures.0

  y_le : c.level-y.result ≤ t c.before.before
  y_le = omega (arith, y_is, under (p c.before.before) (predicted c.before.before) (t c.before.before) (some c.before.before) (small c.before.before) (u c.before.before) (up c.before.before) low (omega arith))

  -- where the sample of rank u is not nearer, it is the lowest rank with the sample of the rank before
  least : (u c.before.before < 16 → t c.before.before - level_of c.before.before low ≤ level_of c.before.before (u c.before.before) - t c.before.before) → First (away c.before.before) 15 (cond (eqb (level_of c.before.before low) 0) 0 low)
  least = quick_under (p c.before.before) (predicted c.before.before) (t c.before.before) (some c.before.before) (small c.before.before) (u c.before.before) (up c.before.before) low before

  -- by the sample that the code has
  same : cond (eqb c.level-y.result 0) 0 low ≡ cond (eqb (level_of c.before.before low) 0) 0 low
  same = ap (λ (y : ℕ). cond (eqb y 0) 0 low) y_is

  alike : c.level-y.result ≡ level_of c.before.before (cond (eqb (level_of c.before.before low) 0) 0 low)
  alike = y_is ∙ quick_alike (p c.before.before) (predicted c.before.before) (t c.before.before) (some c.before.before) (small c.before.before) (u c.before.before) (up c.before.before) low before

-- rank u, and its sample
module _ (c : After-level-z) where
  abbrev g : After-first_reaching-u
  g = c.before.before.before.before

  -- u is below 16, since it is not 16
  more : u g < 16
  more = let w = (up g).within in omega arith

  z_is : c.level-z.result ≡ level_of g (u g)
  z_is = c.level-z.ensures.0

  z_le : t g ≤ c.level-z.result
  z_le = subst (λ (n : ℕ). t g ≤ n) (sym z_is)
      (over (p g) (predicted g) (t g) (some g) (small g) (u g) (up g) (u g) (omega arith) more)

  -- where its sample is nearer than the one before
  nearest_up : level_of g (u g) - t g < t g - level_of g (low c.before.before) → First (away g) 15 (u g)
  nearest_up = quick_up (p g) (predicted g) (t g) (some g) (small g) (u g) (up g) (low c.before.before) (before c.before.before) more

pub returns-then-u-eq0 : goal.returns-then-u-eq0
returns-then-u-eq0 c =
    let first = quick_none (p (goal.at.returns-then-u-eq0 c).After-first_reaching-u) (predicted (goal.at.returns-then-u-eq0 c).After-first_reaching-u) (t (goal.at.returns-then-u-eq0 c).After-first_reaching-u) (some (goal.at.returns-then-u-eq0 c).After-first_reaching-u) (small (goal.at.returns-then-u-eq0 c).After-first_reaching-u) (u (goal.at.returns-then-u-eq0 c).After-first_reaching-u) (up (goal.at.returns-then-u-eq0 c).After-first_reaching-u) (omega arith) in
    least_is (p (goal.at.returns-then-u-eq0 c).After-first_reaching-u) (predicted (goal.at.returns-then-u-eq0 c).After-first_reaching-u) (t (goal.at.returns-then-u-eq0 c).After-first_reaching-u) _ _ 0 refl first c.level-x.ensures.0

pub level-y-requires : goal.level-y-requires
level-y-requires c = let w = (up (goal.at.level-y-requires c).After-first_reaching-u).within in (omega arith, omega arith, omega arith)

pub returns-then-u-eq16 : goal.returns-then-u-eq16
returns-then-u-eq16 c =
    least_is _ _ _ _ _ _ (c.lowest_alike.ensures.0 ∙ same (goal.at.returns-then-u-eq16 c).After-level-y) (least (goal.at.returns-then-u-eq16 c).After-level-y (λ h. absurd (omega arith))) (c.lowest_alike.ensures.1 ∙ alike (goal.at.returns-then-u-eq16 c).After-level-y)

pub level-z-requires : goal.level-z-requires
level-z-requires c = let w = (up (goal.at.level-z-requires c).After-first_reaching-u).within in (omega arith, omega arith, omega arith)

pub overflow_sub-z : goal.overflow_sub-z
overflow_sub-z c = z_le c

pub overflow_sub-t : goal.overflow_sub-t
overflow_sub-t c = y_le (goal.at.overflow_sub-t c).After-level-y

pub returns-then-z-t : goal.returns-then-z-t
returns-then-z-t c =
    least_is _ _ _ _ _ _ refl (nearest_up (goal.at.returns-then-z-t c).After-level-z (rw (← z_is (goal.at.returns-then-z-t c).After-level-z, ← y_is (goal.at.returns-then-z-t c).After-level-y) c.if-z-t.true)) (z_is (goal.at.returns-then-z-t c).After-level-z)

pub returns : goal.returns
returns c =
    let f : t (g (goal.at.returns c).After-level-z) - level_of (g (goal.at.returns c).After-level-z) (low (goal.at.returns c).After-level-y) ≤ level_of (g (goal.at.returns c).After-level-z) (u (g (goal.at.returns c).After-level-z)) - t (g (goal.at.returns c).After-level-z) =
    rw (← z_is (goal.at.returns c).After-level-z, ← y_is (goal.at.returns c).After-level-y) c.if-z-t.false in
    least_is _ _ _ _ _ _ (c.lowest_alike-2.ensures.0 ∙ same (goal.at.returns c).After-level-y) (least (goal.at.returns c).After-level-y (λ h. f)) (c.lowest_alike-2.ensures.1 ∙ alike (goal.at.returns c).After-level-y)
