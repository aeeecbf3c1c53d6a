-- With a fraction in [0, 1), a ratio in [0, 16] and at most 256 outputs, at most 4,097 samples are needed, and the next fraction is in [0, 1). Assumes nothing.
use Rattle.std.specs.Prelude.{ℕ, ◌≤◌, false, T, pos, refl, Float}
use Rattle.std.proofs.Common.{le_trans, lit≤}
use Rattle.std.specs.Float.Ieee.{binary32, le, mul, fits, of_int}
use Rattle.std.specs.Float.Ieee.Fits.{add-fits}
use Rattle.std.specs.Float.Ieee.Back.{round_whole}
use Rattle.floats.specs.Defs.{zero32, sixteen}
use Rattle.floats.specs.Unit.{in_unit, rest_in_unit}
use Rattle.floats.specs.Upto.{Upto, add_upto, mul_upto, from_tests, unit_upto, whole_upto, upto_finite, upto_not_below, upto_unsigned}
use Rattle.resample.specs.Defs.{pos_at, needed_of, next_of}

module _ (fraction ratio : Float) (n : ℕ) (f : T (in_unit fraction)) (r : T (le zero32 ratio)) (r16 : T (le ratio sixteen)) (l : n ≤ 256) where
  -- the place after the last output
  pub end_upto : Upto 4097 (pos_at fraction ratio n)
  unfolding pos_at of_int
  end_upto =
      add_upto fraction (mul binary32 ratio (of_int binary32 (pos n))) 1 4096 (lit≤ tt) (unit_upto fraction f)
      (mul_upto ratio (of_int binary32 (pos n)) 16 256 (lit≤ tt)
      (from_tests ratio sixteen 16 r r16 (refl, refl))
      (whole_upto (of_int binary32 (pos n)) n 256 l (round_whole binary32 false n (le_trans l (lit≤ tt)))))

  pub needed_le : needed_of fraction ratio n ≤ 4097
  unfolding needed_of
  needed_le = upto_unsigned (pos_at fraction ratio n) 4097 end_upto

  pub next_unit : T (in_unit (next_of fraction ratio n))
  unfolding next_of
  next_unit =
      rest_in_unit (pos_at fraction ratio n) end_fits (upto_finite (pos_at fraction ratio n) 4097 end_upto) (upto_not_below (pos_at fraction ratio n) 4097 end_upto)
    where
      end_fits : T (fits binary32 (pos_at fraction ratio n))
      end_fits = add-fits binary32 fraction (mul binary32 ratio (of_int binary32 (pos n)))
