-- No nibble's sample is nearer than the chosen one's, and one with a lower signed number is farther. Assumes nothing.
use Prim.Native.Nat.{ℕ, ◌+◌, ◌%◌, ◌≤◌, ◌<◌}
use mathlib.Core.Path.{◌≡◌, refl, sym, ap, ◌∙◌, subst}
use native.Mathlib.Omega.{arith}
use lib.IntN.{ℤ, sub_ℕ}
use lib.Signed.{◌<ℤ◌}
use mir.Syntax.{w16}
use mir.Val.{SFits}
use Rattle.adpcm.specs.Step.{signed4, step_of, step_fits}
use Rattle.nearest.specs.Least.{least_of, First}
use Rattle.nearest.specs.Nearest.{difference_of, nibble_at, difference_at, nearest_of, Chosen}
use Rattle.nearest.proofs.Least.{least_first}
use Rattle.nearest.proofs.Differences.{diff_less}
use Rattle.nearest.proofs.Levels.{signed_at_lem}

-- the rank of a nibble among the sixteen, from the lowest signed one up
abbrev rank_of : ℕ → ℕ
rank_of v = (v + 8) % 16

nibble_rank : (v : ℕ) → v < 16 → nibble_at (rank_of v) ≡ v
nibble_rank v h = omega arith

-- a lower signed number has a lower rank
rank_less : (v w : ℕ) → v < 16 → w < 16 → signed4 v <ℤ signed4 w → rank_of v < rank_of w
rank_less v w h k l = diff_less (rank_of v) (rank_of w) 8 (rw (← signed v h, ← signed w k) l)
  where
    signed : (v : ℕ) → v < 16 → signed4 v ≡ sub_ℕ (rank_of v) 8
    signed v h = ap signed4 (sym (nibble_rank v h)) ∙ signed_at_lem (rank_of v) (omega arith)

module _ (t : ℤ) (s : ℕ) (c d h0 h1 : ℤ) where
  abbrev near : ℕ
  near = nearest_of t s c d h0 h1

  -- how far the sample of a nibble is from t
  abbrev off : ℕ → ℕ
  off v = difference_of t (step_of v s c d h0 h1)

  abbrev rank : ℕ
  rank = least_of (difference_at t s c d h0 h1) 15

  found : First (difference_at t s c d h0 h1) 15 rank
  found = least_first (difference_at t s c d h0 h1) 15

  pub nearest_below : near < 16
  unfolding nearest_of
  nearest_below = omega arith

  at_rank : (v : ℕ) → v < 16 → difference_at t s c d h0 h1 (rank_of v) ≡ off v
  unfolding difference_at
  at_rank v h = ap off (nibble_rank v h)

  at_near : difference_at t s c d h0 h1 rank ≡ off near
  unfolding difference_at nearest_of
  at_near = refl

  rank_near : rank_of near ≡ rank
  unfolding nearest_of
  rank_near = omega (arith, found.within)

  -- no nibble's sample is nearer
  pub nearest_least : (v : ℕ) → v < 16 → off near ≤ off v
  nearest_least v h = omega (arith, found.least (rank_of v) (omega arith), at_rank v h, at_near)

  -- and one with a lower signed number is farther
  pub nearest_lowest : (v : ℕ) → v < 16 → signed4 v <ℤ signed4 near → off near < off v
  nearest_lowest v h l =
      omega (arith, found.first (rank_of v) (omega (arith, rank_less v near h nearest_below l, rank_near)), at_rank v h, at_near)

-- the same of equal numbers
pub chosen_by : {x x' c c' d d' h0 h0' h1 h1' : ℤ} (s : ℕ) {v : ℕ} {y : ℤ} {off : ℕ} → x ≡ x' → c ≡ c' → d ≡ d' → h0 ≡ h0' → h1 ≡ h1'
    → Chosen x s c d h0 h1 v y off → Chosen x' s c' d' h0' h1' v y off
chosen_by s ex ec ed e0 e1 k = record {
  nibble_is = k.nibble_is ∙ (λ i. nearest_of (ex i) s (ec i) (ed i) (e0 i) (e1 i));
  sample_is = k.sample_is ∙ (λ i. step_of (nearest_of (ex i) s (ec i) (ed i) (e0 i) (e1 i)) s (ec i) (ed i) (e0 i) (e1 i));
  difference_is = k.difference_is
      ∙ (λ i. difference_of (ex i) (step_of (nearest_of (ex i) s (ec i) (ed i) (e0 i) (e1 i)) s (ec i) (ed i) (e0 i) (e1 i)));
  small = k.small;
}

module _ {x : ℤ} {s : ℕ} {c d h0 h1 : ℤ} {v : ℕ} {y : ℤ} {off : ℕ} (k : Chosen x s c d h0 h1 v y off) where
  pub chosen_below : v < 16
  chosen_below = omega (arith, k.nibble_is, nearest_below x s c d h0 h1)

  pub chosen_fits : SFits w16 y
  chosen_fits = subst (SFits w16) (sym k.sample_is) (step_fits _ _ _ _ _ _)
