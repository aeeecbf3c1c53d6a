-- What is kept of a frame's headers. Definitions only.
use Rattle.std.specs.Prelude.{ℕ, ◌<◌, ◌≡◌, cond, List, ltb, ℤ}
use Rattle.trial.specs.Trial.{error_of, kept_of}
use Rattle.trial.specs.declared.Kept.{Kept}

-- the header b with the sum e, if that is less than the sum of the one kept
abbrev pub better_of : Kept → ℕ → ℕ → Kept
better_of k b e = record { header = cond (ltb e k.error) b k.header; error = cond (ltb e k.error) e k.error }

-- the header of the definition, and its sum
pub record Keeps (k ts : List ℤ) (h0 h1 : ℤ) (header error : ℕ) : Type 0 where
  pub header_is : header ≡ kept_of k ts h0 h1
  pub error_is : error ≡ error_of k ts h0 h1 (kept_of k ts h0 h1)
  pub below : header < 128
