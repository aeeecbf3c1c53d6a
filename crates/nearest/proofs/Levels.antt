-- The decoder's step of the nibble of rank r, in offset binary, is its level. Assumes nothing.
use Prim.Native.Nat.{ℕ, suc, ◌+◌, ◌*◌, ◌-◌, ◌/◌, ◌≤◌, ◌<◌, ◌^◌, min}
use mathlib.Core.Path.{◌≡◌, refl, sym, ap, ◌∙◌}
use mathlib.Core.Bool.{Bool, true, false, cond}
use native.Mathlib.Nat.{mul_left_comm}
use native.Mathlib.Omega.{arith}
use borrow.Author.Tests.{ltb-true, ltb-false}
use lib.Dec.{ltb}
use lib.IntN.{ℤ, pos, negsuc, nat_abs, sub_ℕ, ◌+ℤ◌, ◌*ℤ◌}
use lib.Pow.{pow-add}
use lib.Signed.{mag, shr_z}
use Rattle.adpcm.specs.Step.{signed4, clamp_z, step_of}
use Rattle.nearest.specs.Nearest.{nibble_at}
use Rattle.nearest.specs.Levels.{offset_binary, prediction_of, origin_of, level_at}
use Rattle.nearest.proofs.Differences.{diff_same, diff_pos, diff_neg, diff_add, diff_mul, diff_floor, diff_clamp}

signed_by : (r : ℕ) → r < 16 → (t : Bool) → ltb (nibble_at r) 8 ≡ t → cond t (pos (nibble_at r)) (sub_ℕ (nibble_at r) 16) ≡ sub_ℕ r 8
signed_by r h true e = diff_pos (nibble_at r) ∙ diff_same (nibble_at r) 0 r 8 (omega (arith, ltb-true (nibble_at r) 8 e))
signed_by r h false e = diff_same (nibble_at r) 16 r 8 (omega (arith, ltb-false (nibble_at r) 8 e))

-- the r-th nibble is r - 8
pub signed_at_lem : (r : ℕ) → r < 16 → signed4 (nibble_at r) ≡ sub_ℕ r 8
unfolding signed4
signed_at_lem r h = signed_by r h (ltb (nibble_at r) 8) refl

-- a number counted from -n up
abbrev pub counted_from : ℕ → ℤ → ℕ
counted_from n (pos m) = m + n
counted_from n (negsuc m) = n - suc m

counted_is : (n : ℕ) (z : ℤ) → mag z < n → z ≡ sub_ℕ (counted_from n z) n
counted_is n (pos m) h = diff_pos m ∙ diff_same m 0 (m + n) n (omega arith)
counted_is n (negsuc m) h = diff_neg m ∙ diff_same 0 (suc m) (n - suc m) n (omega arith)

counted_below : (z : ℤ) → mag z ≤ 2 ^ 30 → counted_from (2 ^ 31) z ≤ 2 ^ 31 + 2 ^ 30
counted_below (pos m) h = omega arith
counted_below (negsuc m) h = omega arith

-- two products of 16-bit numbers and 2^32 + 1024: the sum is not negative
pub sum_is : (x y : ℤ) → mag x < 2 ^ 31 → mag y < 2 ^ 31
    → x +ℤ y +ℤ pos (2 ^ 32 + 1024) ≡ pos (counted_from (2 ^ 31) x + counted_from (2 ^ 31) y + 1024)
sum_is x y p q =
    let a = counted_from (2 ^ 31) x in
    let b = counted_from (2 ^ 31) y in
    (λ i. counted_is (2 ^ 31) x p i +ℤ counted_is (2 ^ 31) y q i +ℤ diff_pos (2 ^ 32 + 1024) i)
    ∙ (λ i. diff_add a (2 ^ 31) b (2 ^ 31) i +ℤ sub_ℕ (2 ^ 32 + 1024) 0)
    ∙ diff_add (a + b) (2 ^ 31 + 2 ^ 31) (2 ^ 32 + 1024) 0
    ∙ diff_same (a + b + (2 ^ 32 + 1024)) (2 ^ 31 + 2 ^ 31 + 0) (a + b + 1024) 0 (omega arith)
    ∙ sym (diff_pos (a + b + 1024))

pub sum_below : (x y : ℤ) → mag x ≤ 2 ^ 30 → mag y ≤ 2 ^ 30 → counted_from (2 ^ 31) x + counted_from (2 ^ 31) y + 1024 < 2 ^ 33
sum_below x y p q = omega (arith, counted_below x p, counted_below y q)

module _ (c d h0 h1 : ℤ) (one : mag (c *ℤ h0) < 2 ^ 31) (two : mag (d *ℤ h1) < 2 ^ 31) where
  abbrev a : ℕ
  a = counted_from (2 ^ 31) (c *ℤ h0)

  abbrev b : ℕ
  b = counted_from (2 ^ 31) (d *ℤ h1)

  prediction_is : prediction_of c d h0 h1 ≡ (a + b + 1024) / 2048
  unfolding prediction_of
  prediction_is = ap (λ (z : ℤ). nat_abs z / 2048) (sum_is (c *ℤ h0) (d *ℤ h1) one two)

  module _ (r s : ℕ) (few : r < 16) where
    abbrev m : ℕ
    m = 2 ^ (11 + s)

    -- what stands for a sum of 0: rank 8, and 2^31 for each product
    abbrev o : ℕ
    o = 8 * m + 2 ^ 31 + 2 ^ 31 + 0

    m_is : m ≡ 2048 * 2 ^ s
    m_is = pow-add 2 11 s

    whole_is : signed4 (nibble_at r) *ℤ pos m +ℤ c *ℤ h0 +ℤ d *ℤ h1 +ℤ pos 1024 ≡ sub_ℕ (r * m + a + b + 1024) o
    whole_is =
        (λ i. signed_at_lem r few i *ℤ pos m +ℤ counted_is (2 ^ 31) (c *ℤ h0) one i +ℤ counted_is (2 ^ 31) (d *ℤ h1) two i +ℤ diff_pos 1024 i)
        ∙ (λ i. diff_mul r 8 m i +ℤ sub_ℕ a (2 ^ 31) +ℤ sub_ℕ b (2 ^ 31) +ℤ sub_ℕ 1024 0)
        ∙ (λ i. diff_add (r * m) (8 * m) a (2 ^ 31) i +ℤ sub_ℕ b (2 ^ 31) +ℤ sub_ℕ 1024 0)
        ∙ (λ i. diff_add (r * m + a) (8 * m + 2 ^ 31) b (2 ^ 31) i +ℤ sub_ℕ 1024 0)
        ∙ diff_add (r * m + a + b) (8 * m + 2 ^ 31 + 2 ^ 31) 1024 0

    -- the decoder's sample of the nibble of rank r is its level
    pub step_level : offset_binary (step_of (nibble_at r) s c d h0 h1) ≡ level_at (2 ^ s) (prediction_of c d h0 h1) r
    unfolding step_of
    step_level =
        let p = 2 ^ s in
        let n = r * m + a + b + 1024 in
        let z = 8 * p + 2 ^ 21 in
        let e : sub_ℕ n o ≡ sub_ℕ n (2048 * z) = diff_same n o n (2048 * z) (omega (arith, m_is)) in
        let f : n / 2048 ≡ r * p + (a + b + 1024) / 2048 =
        (let g : r * m ≡ 2048 * (r * p) = ap (λ (k : ℕ). r * k) m_is ∙ mul_left_comm r 2048 p in omega (arith, g)) in
        ap (λ (x : ℤ). offset_binary (clamp_z (shr_z x 2048))) (whole_is ∙ e)
        ∙ ap (λ (x : ℤ). offset_binary (clamp_z x)) (diff_floor n z)
        ∙ diff_clamp (n / 2048) z
        ∙ (λ i. min 65535 (f i + 32768 - z))
        ∙ (λ i. min 65535 (r * p + sym prediction_is i + 32768 - z))
        ∙ last (r * p) (prediction_of c d h0 h1) p
      where
        last : (x y p : ℕ) → min 65535 (x + y + 32768 - (8 * p + 2 ^ 21)) ≡ min 65535 (x + y - origin_of p)
        last x y p = omega arith
