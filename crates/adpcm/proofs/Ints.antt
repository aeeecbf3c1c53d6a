-- Bounds on the sum and the product of two integers, by `mag` (n of n and of -(n + 1)). Assumes nothing.
use mathlib.Core.Path.{◌≡◌, refl, sym, ap, subst, ◌∙◌}
use mathlib.Core.Bool.{Bool, true, false, cond}
use Prim.Native.Nat.{ℕ, zero, suc, ◌+◌, ◌*◌, ◌-◌, ◌%◌, ◌≤◌, ◌<◌, ◌^◌}
use native.Mathlib.Nat.{le_trans, mul-le-mul_left, mul-le-mul_right}
use native.Mathlib.Omega.{arith}
use lib.Dec.{T, leb, ltb}
use lib.IntN.{ℤ, pos, negsuc, neg_ℤ, sub_ℕ, ◌+ℤ◌, ◌*ℤ◌}
use lib.Signed.{mag}
use lib.Pow.{pow_mono, shl_exact}
use mir.Syntax.{Width, w16, w64}
use mir.Val.{hbits, SFits, to_z, of_z}
use mir.Facts.{sfits_widen, to_z-of_z}
use Rattle.std.specs.Int.{int_min, int_max}
use Rattle.adpcm.specs.Step.{signed4, clamp_z}

cond_mag : (t : Bool) (x y : ℤ) (n : ℕ) → mag x ≤ n → mag y ≤ n → mag (cond t x y) ≤ n
cond_mag true x y n p q = p
cond_mag false x y n p q = q

mag_sub : (a b : ℕ) → mag (sub_ℕ a b) ≤ a + b
mag_sub a b = cond_mag (ltb a b) (negsuc (b - suc a)) (pos (a - b)) (a + b) (omega arith) (omega arith)

pub mag_add : (x y : ℤ) → mag (x +ℤ y) ≤ mag x + mag y + 1
mag_add (pos a) (pos b) = omega arith
mag_add (pos a) (negsuc b) = omega (arith, mag_sub a (suc b))
mag_add (negsuc a) (pos b) = omega (arith, mag_sub b (suc a))
mag_add (negsuc a) (negsuc b) = omega arith

mag_neg : (n : ℕ) → mag (neg_ℤ (pos n)) ≤ n
mag_neg zero = omega arith
mag_neg (suc n) = omega arith

mul_le : {a b j k : ℕ} → a ≤ j → b ≤ k → a * b ≤ j * k
mul_le {a} {b} {j} {k} p q = le_trans (mul-le-mul_left a q) (mul-le-mul_right k p)

pub mag_mul : (x y : ℤ) {j k : ℕ} → mag x < j → mag y < k → mag (x *ℤ y) ≤ j * k
mag_mul (pos a) (pos b) p q = mul_le (omega arith) (omega arith)
mag_mul (pos a) (negsuc b) p q = le_trans (mag_neg (a * suc b)) (mul_le (omega arith) q)
mag_mul (negsuc a) (pos b) p q = le_trans (mag_neg (suc a * b)) (mul_le p (omega arith))
mag_mul (negsuc a) (negsuc b) p q = mul_le p q

-- the product of two 16-bit numbers
pub mul16 : {x y : ℤ} → SFits w16 x → SFits w16 y → mag (x *ℤ y) ≤ 2 ^ 30
mul16 {x} {y} p q = mag_mul x y p.sfits q.sfits

-- a signed number cast to 64 bits from fewer
module _ {w : Width} {z : ℤ} (narrower : T (leb (hbits w) (hbits w64))) (fits : SFits w z) where
  pub widens : SFits w64 (to_z w (of_z w z))
  widens = subst (SFits w64) (sym (to_z-of_z fits)) (sfits_widen narrower fits)

  pub widened : to_z w64 (of_z w64 (to_z w (of_z w z))) ≡ z
  widened = ap (λ (y : ℤ). to_z w64 (of_z w64 y)) (to_z-of_z fits) ∙ to_z-of_z {w = w64} (sfits_widen narrower fits)

-- far below 2^63
pub fits64 : {z : ℤ} → mag z ≤ 2 ^ 40 → SFits w64 z
fits64 p = record { sfits = omega arith }

-- ---- the scaled nibble
pub signed4_le : (v : ℕ) → v < 16 → mag (signed4 v) < 32
unfolding signed4
signed4_le v h = omega (arith, cond_mag (ltb v 8) (pos v) (sub_ℕ v 16) 31 (omega arith) (le_trans (mag_sub v 16) (omega arith)))

pub pow_le : (s : ℕ) → s < 16 → 2 ^ (11 + s) ≤ 2 ^ 26
pow_le s h = pow_mono {j = 26} (omega arith)

pub scaled_le : (v s : ℕ) → v < 16 → s < 16 → mag (signed4 v *ℤ pos (2 ^ (11 + s))) ≤ 2 ^ 32
scaled_le v s h k = mag_mul (signed4 v) (pos (2 ^ (11 + s))) {j = 32} {k = 2 ^ 27} (signed4_le v h) (omega (arith, pow_le s k))

-- 1 << (11 + s)
pub shl_one : (s : ℕ) → s < 16 → 1 * 2 ^ (11 + s) % 2 ^ 64 ≡ 2 ^ (11 + s)
shl_one s h = shl_exact 1 (11 + s) 64 (omega arith) (omega arith) ∙ omega arith

-- what the machine reads back of a call's result, whose range is c.CALL.type_inv
pub back : (w : Width) (z : ℤ) → mag z < 2 ^ hbits w → to_z w (of_z w z) ≡ z
back w z p = to_z-of_z {w = w} {z = z} (record { sfits = p })

-- the library's nearest number between two
clamped_by : (n : ℕ) (t : Bool) → int_max (negsuc 32767) (cond t (pos 32767) (pos n)) ≡ cond t (pos 32767) (pos n)
clamped_by n true = refl
clamped_by n false = refl

pub clamped : (z : ℤ) → int_max (negsuc 32767) (int_min z (pos 32767)) ≡ clamp_z z
unfolding clamp_z
clamped (pos n) = clamped_by n (ltb 32767 n)
clamped (negsuc n) = refl
