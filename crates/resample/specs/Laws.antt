-- Lengths, one more output, and what the points are. Assumes nothing.
use Rattle.std.specs.Prelude.{◌≡◌, ℕ, zero, suc, ◌<◌, ◌≤◌, Bool, cond, List, [], ◌∷◌, ◌++◌, length, refl, Float}
use Rattle.std.proofs.Common.{ap, ◌∙◌, add-one, length-append, lt-ltb, le-ltb}
use Rattle.resample.specs.Defs.{sample_at, samples, fourth, with_fourth, points_of, resampled}

-- four samples or more are the points
pub points_long : (input : List Float) → 4 ≤ length input → points_of input ≡ input
unfolding points_of
points_long input h = ap (λ (b : Bool). cond b (with_fourth input) input) (le-ltb (length input) 4 h)

pub points_short : (input : List Float) → length input < 4 → points_of input ≡ with_fourth input
unfolding points_of
points_short input h = ap (λ (b : Bool). cond b (with_fourth input) input) (lt-ltb (length input) 4 h)

-- three get a fourth
pub points_three : (a b c : Float) → points_of (a ∷ b ∷ c ∷ []) ≡ a ∷ b ∷ c ∷ fourth a b c ∷ []
unfolding points_of
points_three a b c = refl

pub length_samples : (points : List Float) (ratio fraction : Float) (n : ℕ) → length (samples points ratio fraction n) ≡ n
unfolding samples
length_samples points ratio fraction zero = refl
length_samples points ratio fraction (suc n) =
    length-append (samples points ratio fraction n) (sample_at points ratio fraction n ∷ [])
    ∙ add-one (length (samples points ratio fraction n))
    ∙ ap suc (length_samples points ratio fraction n)

pub length_resampled : (input : List Float) (ratio fraction : Float) (n : ℕ) → length (resampled input ratio fraction n) ≡ n
unfolding resampled
length_resampled input ratio fraction n = length_samples (points_of input) ratio fraction n

-- one more output
pub resampled_suc : (input : List Float) (ratio fraction : Float) (n : ℕ)
    → resampled input ratio fraction (suc n) ≡ resampled input ratio fraction n ++ (sample_at (points_of input) ratio fraction n ∷ [])
unfolding resampled samples
resampled_suc input ratio fraction n = refl
