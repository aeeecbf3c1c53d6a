-- What is worked out in offset binary is what the definition says: the rank, its nibble, its sample, and how far that is off.
-- Assumes nothing.
use Prim.Native.Nat.{ℕ, ◌≤◌, ◌<◌, ◌^◌}
use mathlib.Core.Path.{◌≡◌, sym, ap, ◌∙◌}
use native.Mathlib.Omega.{arith}
use lib.IntN.{ℤ, ◌*ℤ◌}
use lib.Signed.{mag}
use mir.Syntax.{w16}
use mir.Val.{SFits}
use Rattle.adpcm.specs.Step.{step_of, step_fits}
use Rattle.nearest.specs.Least.{least_of}
use Rattle.nearest.specs.Nearest.{difference_of, nibble_at, difference_at, nearest_of}
use Rattle.nearest.specs.Levels.{offset_binary, apart_of, prediction_of, level_at, away_at}
use Rattle.nearest.proofs.Least.{least_same}
use Rattle.nearest.proofs.Offsets.{difference_offset}
use Rattle.nearest.proofs.Levels.{step_level}

module _ (x : ℤ) (s : ℕ) (c d h0 h1 : ℤ) (fits : SFits w16 x) (one : mag (c *ℤ h0) < 2 ^ 31) (two : mag (d *ℤ h1) < 2 ^ 31) where
  -- the sample of the nibble of rank r, and how far it is from x, in offset binary
  abbrev level : ℕ → ℕ
  level = level_at (2 ^ s) (prediction_of c d h0 h1)

  abbrev away : ℕ → ℕ
  away = away_at (2 ^ s) (prediction_of c d h0 h1) (offset_binary x)

  away_is : (r : ℕ) → r ≤ 15 → difference_at x s c d h0 h1 r ≡ away r
  unfolding difference_at
  away_is r h =
      difference_offset x (step_of (nibble_at r) s c d h0 h1) fits (step_fits _ _ _ _ _ _)
      ∙ ap (apart_of (offset_binary x)) (step_level c d h0 h1 one two r s (omega arith))

  pub place_is : least_of (difference_at x s c d h0 h1) 15 ≡ least_of away 15
  place_is = least_same (difference_at x s c d h0 h1) away 15 away_is

  -- the nibble, its sample and how far it is off, of the place that was worked out
  module _ (r : ℕ) (e : r ≡ least_of away 15) (few : r < 16) where
    -- the decoder's sample of the nearest nibble
    abbrev nearest : ℤ
    nearest = step_of (nearest_of x s c d h0 h1) s c d h0 h1

    pub nibble_is : nibble_at r ≡ nearest_of x s c d h0 h1
    unfolding nearest_of
    nibble_is = ap nibble_at (e ∙ sym place_is)

    pub sample_is : level r ≡ offset_binary nearest
    sample_is = sym (step_level c d h0 h1 one two r s few) ∙ ap (λ (v : ℕ). offset_binary (step_of v s c d h0 h1)) nibble_is

    pub difference_is : apart_of (offset_binary x) (level r) ≡ difference_of x nearest
    difference_is = ap (apart_of (offset_binary x)) sample_is ∙ sym (difference_offset x _ fits (step_fits _ _ _ _ _ _))
