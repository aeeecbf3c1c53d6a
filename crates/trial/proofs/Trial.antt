-- None of the 128 headers has a smaller sum than the one kept, and those with a lower byte have larger ones. Assumes nothing.
use Prim.Native.Nat.{ℕ, suc, ◌≤◌, ◌<◌}
use mathlib.Core.List.{List, [], ◌∷◌}
use mathlib.Core.Path.{◌≡◌, refl, ap}
use native.Mathlib.Omega.{arith}
use lib.IntN.{ℤ}
use lib.ListN.{length}
use Rattle.nearest.specs.Least.{First}
use Rattle.nearest.proofs.Least.{least_first}
use Rattle.trial.specs.Trial.{nibbles_of, reconstructed_of, error_of, kept_of}

module _ (k ts : List ℤ) (h0 h1 : ℤ) where
  kept : First (error_of k ts h0 h1) 127 (kept_of k ts h0 h1)
  unfolding kept_of
  kept = least_first (error_of k ts h0 h1) 127

  pub kept_below : kept_of k ts h0 h1 < 128
  kept_below = omega (arith, kept.within)

  -- none of the 128 has less
  pub kept_least : (b : ℕ) → b < 128 → error_of k ts h0 h1 (kept_of k ts h0 h1) ≤ error_of k ts h0 h1 b
  kept_least b h = kept.least b (omega arith)

  -- and a lower header byte has more
  pub kept_first : (b : ℕ) → b < kept_of k ts h0 h1 → error_of k ts h0 h1 (kept_of k ts h0 h1) < error_of k ts h0 h1 b
  kept_first = kept.first

module _ (s : ℕ) (c d : ℤ) where
  pub length_nibbles : (ts : List ℤ) (h0 h1 : ℤ) → length (nibbles_of s c d ts h0 h1) ≡ length ts
  unfolding nibbles_of
  length_nibbles [] h0 h1 = refl
  length_nibbles (t ∷ ts) h0 h1 = ap suc (length_nibbles ts _ h0)

  pub length_reconstructed : (ts : List ℤ) (h0 h1 : ℤ) → length (reconstructed_of s c d ts h0 h1) ≡ length ts
  unfolding reconstructed_of
  length_reconstructed [] h0 h1 = refl
  length_reconstructed (t ∷ ts) h0 h1 = ap suc (length_reconstructed ts _ h0)
