-- The sums of the frames one by one, and a sum that is held each time something is added. Definitions only.
use Rattle.std.specs.Prelude.{ℕ, zero, suc, ◌+◌, List, [], ◌∷◌, ℤ, take, drop}
use Rattle.adpcm.specs.declared.context.AdpcmContext.{AdpcmContext}
use Rattle.trial.specs.Trial.{frame_samples, kept_of}
use Rattle.encoder.specs.Encode.{frame_with, frame_of, saturated}

-- numbers added one by one to a sum, which is held each time
abbrev pub held_from : ℕ → List ℕ → ℕ
held_from sum [] = sum
held_from sum (e ∷ es) = held_from (saturated (sum + e)) es

-- their exact total
abbrev pub total_of : List ℕ → ℕ
total_of [] = 0
total_of (e ∷ es) = e + total_of es

-- the sums of n frames
unfoldable pub errors_from : ℕ → List ℤ → List ℤ → AdpcmContext → List ℕ
unfolding frame_with kept_of
errors_from zero k ts x = []
errors_from (suc n) k ts x =
    (frame_of k (take frame_samples ts) x).error ∷ errors_from n k (drop frame_samples ts) (frame_of k (take frame_samples ts) x).context
