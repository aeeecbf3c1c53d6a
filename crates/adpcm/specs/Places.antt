-- Where a sample stands, by the format's description: sample n is at nibble 16 × (n div 14) + (n mod 14), plus 2 if n mod 14 is not 0. Assumes nothing.
use Rattle.std.specs.Prelude.{ℕ, zero, suc, ◌+◌, ◌-◌, ◌*◌, ◌/◌, ◌%◌, ◌≤◌, ◌<◌, ◌≡◌, refl, ◌⊎◌, Bool, true, false, cond, eqb}
use Rattle.std.proofs.Common.{arith, inl, inr, ⊎_elim, eqb-true, eq-eqb, ne_eqb}
use Rattle.std.proofs.lemmas.Bool.{eqb-false}

unfoldable pub nibble_of : ℕ → ℕ
nibble_of n = 16 * (n / 14) + n % 14 + cond (eqb (n % 14) 0) 0 2

-- the bytes that hold the nibbles before sample n: half as many, rounded up
unfoldable pub size_of : ℕ → ℕ
size_of n = (nibble_of n + 1) / 2

-- the samples that b bytes hold: 14 for each whole frame, and two for each byte after the header of the last
unfoldable pub held_of : ℕ → ℕ
held_of b = 14 * (b / 8) + (2 * (b % 8) - 2)

-- ---- laws

-- both cases of the description
pub record At (n p : ℕ) : Type 0 where
  pub first : n % 14 ≡ 0 → p ≡ 16 * (n / 14)
  pub later : 0 < n % 14 → p ≡ 16 * (n / 14) + n % 14 + 2

at_by : (n : ℕ) (b : Bool) → eqb (n % 14) 0 ≡ b → At n (16 * (n / 14) + n % 14 + cond b 0 2)
at_by n true e = record { first = λ h. omega arith; later = λ h. omega (arith, eqb-true (n % 14) 0 e) }
at_by n false e = record { first = λ h. absurd (eqb-false (n % 14) 0 e h); later = λ h. omega arith }

pub nibble_at_lem : (n : ℕ) → At n (nibble_of n)
unfolding nibble_of
nibble_at_lem n = at_by n (eqb (n % 14) 0) refl

zero_or : (n : ℕ) → (n ≡ 0) ⊎ (0 < n)
zero_or zero = inl refl
zero_or (suc n) = inr (omega arith)

-- a fact of a sample's nibble, by the two cases
pub by_case : {A : Type 0} (n : ℕ) → (n % 14 ≡ 0 → nibble_of n ≡ 16 * (n / 14) → A) → (0 < n % 14 → nibble_of n ≡ 16 * (n / 14) + n % 14 + 2 → A) → A
by_case n f g = ⊎_elim (λ (p : n % 14 ≡ 0). f p ((nibble_at_lem n).first p)) (λ (p : 0 < n % 14). g p ((nibble_at_lem n).later p)) (zero_or (n % 14))

pub nibble_le : (n : ℕ) → nibble_of n ≤ 16 * (n / 14) + n % 14 + 2
nibble_le n = by_case n (λ p e. omega arith) (λ p e. omega arith)

-- an even sample is at a high nibble, and an odd one at a low one
pub nibble_parity : (n : ℕ) → nibble_of n % 2 ≡ n % 2
nibble_parity n = by_case n (λ p e. omega arith) (λ p e. omega arith)

-- a later sample is at no earlier nibble
pub nibble_mono : (a b : ℕ) → a ≤ b → nibble_of a ≤ nibble_of b
nibble_mono a b h =
    by_case a
    (λ p e. by_case b (λ q f. omega arith) (λ q f. omega arith))
    (λ p e. by_case b (λ q f. omega arith) (λ q f. omega arith))

-- the byte of an even nibble is the first that no earlier sample takes, and that of an odd one is the byte before
pub size_even : (n : ℕ) → nibble_of n % 2 ≡ 0 → size_of n ≡ nibble_of n / 2
unfolding size_of
size_even n h = omega arith

pub size_odd : (n : ℕ) → nibble_of n % 2 ≡ 1 → size_of n ≡ nibble_of n / 2 + 1
unfolding size_of
size_odd n h = omega arith

pub size_mono : (a b : ℕ) → a ≤ b → size_of a ≤ size_of b
unfolding size_of
size_mono a b h = omega (arith, nibble_mono a b h)

-- b bytes hold sample m if and only if they reach past its byte, and at a frame's first sample past its header's byte too
pub held_more : (b m : ℕ) → nibble_of m / 2 + cond (eqb (m % 14) 0) 1 0 < b → m < held_of b
unfolding held_of
held_more b m = by_case m (λ p e. rw (eq-eqb (m % 14) 0 p) (λ h. omega arith)) (λ p e. rw (ne_eqb (m % 14) 0 (λ z. omega arith)) (λ h. omega arith))

pub held_less : (b m : ℕ) → b ≤ nibble_of m / 2 + cond (eqb (m % 14) 0) 1 0 → held_of b ≤ m
unfolding held_of
held_less b m = by_case m (λ p e. rw (eq-eqb (m % 14) 0 p) (λ h. omega arith)) (λ p e. rw (ne_eqb (m % 14) 0 (λ z. omega arith)) (λ h. omega arith))
