-- Nibbles in their bytes. Assumes nothing.
use Prim.Native.Nat.{ℕ, zero, suc, ◌+◌, ◌*◌, ◌/◌, ◌%◌, ◌<◌}
use mathlib.Core.Path.{◌≡◌, ◌∙◌}
use mathlib.Core.List.{List, [], ◌∷◌}
use native.Mathlib.Omega.{arith}
use lib.Dec.{eqb}
use lib.IntN.{ℤ}
use lib.ListN.{length, get_or}
use Rattle.adpcm.specs.Decode.{half_of}
use Rattle.nearest.proofs.Nearest.{nearest_below}
use Rattle.trial.specs.Trial.{nibbles_of}
use Rattle.encoder.specs.Encode.{packed}

-- two nibbles to a byte, rounded up
pub length_packed : (vs : List ℕ) → length (packed vs) ≡ (length vs + 1) / 2
unfolding packed
length_packed [] = omega arith
length_packed (v ∷ []) = omega arith
length_packed (v ∷ (w ∷ vs)) = omega (arith, length_packed vs)

-- a list of nibbles: each is below 16
abbrev pub Nibbles : List ℕ → Type 0
Nibbles vs = (i : ℕ) → get_or vs i 0 < 16

-- what is chosen for samples is such a list
pub nibbles_all : (s : ℕ) (c d : ℤ) (ts : List ℤ) (h0 h1 : ℤ) → Nibbles (nibbles_of s c d ts h0 h1)
unfolding nibbles_of
nibbles_all s c d [] h0 h1 i = omega arith
nibbles_all s c d (t ∷ ts) h0 h1 zero = nearest_below t s c d h0 h1
nibbles_all s c d (t ∷ ts) h0 h1 (suc i) = nibbles_all s c d ts _ h0 i

high_of : (v w : ℕ) → w < 16 → (v * 16 + w) / 16 ≡ v
high_of v w h = omega arith

low_of : (v w : ℕ) → w < 16 → (v * 16 + w) % 16 ≡ w
low_of v w h = omega arith

-- nibble j as the half of its byte
pub half_is : (vs : List ℕ) (j : ℕ) → Nibbles vs → j < length vs → half_of (eqb (j % 2) 0) (get_or (packed vs) (j / 2) 0) ≡ get_or vs j 0
unfolding packed
half_is [] j p h = absurd (omega arith)
half_is (v ∷ []) zero p h = omega arith
half_is (v ∷ []) (suc j) p h = absurd (omega arith)
half_is (v ∷ (w ∷ vs)) zero p h = high_of v w (p 1)
half_is (v ∷ (w ∷ vs)) (suc zero) p h = low_of v w (p 1)
half_is (v ∷ (w ∷ vs)) (suc (suc j)) p h =
    let q : suc (suc j) / 2 ≡ suc (j / 2) = omega arith in
    let r : suc (suc j) % 2 ≡ j % 2 = omega arith in
    (λ i. half_of (eqb (r i) 0) (get_or ((v * 16 + w) ∷ packed vs) (q i) 0)) ∙ half_is vs j (λ i. p (suc (suc i))) (omega arith)
