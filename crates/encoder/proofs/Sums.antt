-- Adding frame by frame and holding each time gives the least of 2^64 - 1 and the exact total. Assumes nothing.
use Prim.Native.Nat.{ℕ, zero, suc, ◌+◌, ◌-◌, ◌≤◌, ◌^◌}
use mathlib.Core.Path.{◌≡◌, refl, ap, ◌∙◌}
use mathlib.Core.List.{List, [], ◌∷◌}
use native.Mathlib.Nat.{zero-add}
use native.Mathlib.Omega.{arith}
use lib.IntN.{ℤ}
use lib.ListN.{take, drop}
use Rattle.adpcm.specs.declared.context.AdpcmContext.{AdpcmContext}
use Rattle.trial.specs.Trial.{frame_samples}
use Rattle.encoder.specs.Encode.{frame_of, encoded_from, saturated}
use Rattle.encoder.specs.Sums.{held_from, total_of, errors_from}

-- to hold once more changes nothing
pub saturated_add : (a b c : ℕ) → saturated (saturated (a + b) + c) ≡ saturated (a + (b + c))
saturated_add a b c = omega arith

pub saturated_is : (a : ℕ) → a ≤ 2 ^ 64 - 1 → a ≡ saturated (a + 0)
saturated_is a h = omega arith

pub held_sum : (sum : ℕ) (es : List ℕ) → sum ≤ 2 ^ 64 - 1 → held_from sum es ≡ saturated (sum + total_of es)
held_sum sum [] h = saturated_is sum h
held_sum sum (e ∷ es) h = held_sum (saturated (sum + e)) es (omega arith) ∙ saturated_add sum e (total_of es)

errors_total : (n : ℕ) (k ts : List ℤ) (x : AdpcmContext) → total_of (errors_from n k ts x) ≡ (encoded_from n k ts x).error
unfolding errors_from encoded_from
errors_total zero k ts x = refl
errors_total (suc n) k ts x =
    let f = frame_of k (take frame_samples ts) x in
    ap (λ (m : ℕ). f.error + m) (errors_total n k (drop frame_samples ts) f.context)

-- the sums of an encoding's frames
pub held_error : (n : ℕ) (k ts : List ℤ) (x : AdpcmContext) → held_from 0 (errors_from n k ts x) ≡ saturated (encoded_from n k ts x).error
held_error n k ts x = held_sum 0 (errors_from n k ts x) (omega arith) ∙ ap saturated (zero-add _ ∙ errors_total n k ts x)
