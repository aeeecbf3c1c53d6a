-- `nearest::choose_nibble` meets its contract: what is worked out in offset binary is what the definition says. Assumes nothing.
use mathlib.Core.Path.{◌≡◌, ap, ◌∙◌}
use Prim.Native.Nat.{ℕ, ◌≤◌, ◌<◌, ◌^◌}
use native.Mathlib.Omega.{arith}
use lib.IntN.{ℤ, sub_ℕ, ◌*ℤ◌}
use lib.Signed.{mag}
use mir.Syntax.{w16}
use mir.Facts.{to_z-of_z}
use Rattle.adpcm.specs.Step.{step_of, step_fits}
use Rattle.nearest.specs.Least.{least_of}
use Rattle.nearest.specs.Nearest.{difference_of, nibble_at, nearest_of}
use Rattle.adpcm.proofs.Ints.{mul16, back}
use Rattle.nearest.specs.Levels.{offset_binary, apart_of, prediction_of, level_at, away_at}
use Rattle.nearest.proofs.Offsets.{offset_back}
use Rattle.nearest.proofs.Ranks.{nibble_is, sample_is, difference_is}
use Rattle.nearest.proofs.choose_nibble.Goals as goal
use Rattle.nearest.proofs.choose_nibble.Goals.{After-abs_diff}

-- after the last call: the arguments, and what the calls gave
module _ (end : After-abs_diff) where
  abbrev x : ℤ
  x = end.args.x

  abbrev s : ℕ
  s = end.args.s

  abbrev c : ℤ
  c = end.args.c

  abbrev d : ℤ
  d = end.args.d

  abbrev h0 : ℤ
  h0 = end.args.h0

  abbrev h1 : ℤ
  h1 = end.args.h1

  abbrev t : ℕ
  t = end.offset_binary-t.result

  abbrev predicted : ℕ
  predicted = end.prediction-predicted.result

  abbrev r : ℕ
  r = end.nearest_rank-near.result.rank

  abbrev y : ℕ
  y = end.nearest_rank-near.result.level

  t_is : t ≡ offset_binary x
  t_is = end.offset_binary-t.ensures.0 ∙ ap offset_binary (to_z-of_z end.ranges.x)

  t_le : t ≤ 65535
  t_le = end.offset_binary-t.ensures.1

  predicted_is : predicted ≡ prediction_of c d h0 h1
  predicted_is =
      let f = end.ranges in
      end.prediction-predicted.ensures.0
      ∙ (λ i. prediction_of (to_z-of_z f.c i) (to_z-of_z f.d i) (to_z-of_z f.h0 i) (to_z-of_z f.h1 i))

  r_is : r ≡ least_of (away_at (2 ^ s) (prediction_of c d h0 h1) (offset_binary x)) 15
  r_is = end.nearest_rank-near.ensures.rank_is ∙ (λ i. least_of (away_at (2 ^ s) (predicted_is i) (t_is i)) 15)

  few : r < 16
  few = end.nearest_rank-near.ensures.few

  y_is : y ≡ level_at (2 ^ s) (prediction_of c d h0 h1) r
  y_is = end.nearest_rank-near.ensures.level_is ∙ (λ i. level_at (2 ^ s) (predicted_is i) r)

  y_le : y ≤ 65535
  y_le = omega (arith, y_is)

  one : mag (c *ℤ h0) < 2 ^ 31
  one = omega (arith, mul16 end.ranges.c end.ranges.h0)

  two : mag (d *ℤ h1) < 2 ^ 31
  two = omega (arith, mul16 end.ranges.d end.ranges.h1)

  -- the sample of the nearest nibble, by the decoder's step
  abbrev nearest : ℤ
  nearest = step_of (nearest_of x s c d h0 h1) s c d h0 h1

  y_nearest : y ≡ offset_binary nearest
  y_nearest = y_is ∙ sample_is x s c d h0 h1 end.ranges.x one two r r_is few

  sample_nearest : sub_ℕ y 32768 ≡ nearest
  sample_nearest = ap (λ (n : ℕ). sub_ℕ n 32768) y_nearest ∙ offset_back nearest (step_fits _ _ _ _ _ _)

  off : end.abs_diff.result ≡ difference_of x nearest
  off = end.abs_diff.ensures
      ∙ (λ i. apart_of (t_is i) (y_is i))
      ∙ difference_is x s c d h0 h1 end.ranges.x one two r r_is few

  chosen : nibble_at r ≡ nearest_of x s c d h0 h1
  chosen = nibble_is x s c d h0 h1 end.ranges.x one two r r_is few

pub returns : goal.returns
returns end =
    let lowered = end.from_offset_binary in
    record {
      nibble_is = chosen end;
      sample_is = back w16 lowered.result lowered.type_inv ∙ lowered.ensures ∙ sample_nearest end;
      difference_is = off end;
      small = omega (arith, end.abs_diff.ensures, y_le end, t_le end);
    }
