-- One sample, by the format's description: floor((v × 2^(11+s) + c × h0 + d × h1 + 1024) / 2048), clamped to -32768..32767. Assumes nothing.
use Rattle.std.specs.Prelude.{ℕ, zero, suc, ◌+◌, ◌*◌, ◌-◌, ◌/◌, ◌<◌, ◌^◌, ◌≡◌, refl, Bool, true, false, cond, ltb, ℤ, pos, negsuc, neg_ℤ, ◌+ℤ◌, ◌*ℤ◌, ◌≤ℤ◌, ◌<ℤ◌}
use Rattle.std.proofs.Common.{arith, ltb-false, SFits}
use Rattle.std.proofs.Math.IntN.{suc_ℤ, sub_ℕ}
use Rattle.std.specs.Int.Signed.{lt_z, shr_z}
use Rattle.std.proofs.Math.Facts.{yes_leb, yes_ltb}
use Rattle.std.specs.Int.{w16}

-- four bits as a signed number: v, or v - 16 from 8 on
unfoldable pub signed4 : ℕ → ℤ
signed4 v = cond (ltb v 8) (pos v) (sub_ℕ v 16)

-- z divided by m, rounded down
abbrev pub floor_div : ℤ → ℕ → ℤ
floor_div = shr_z

unfoldable pub clamp_z : ℤ → ℤ
clamp_z z = cond (lt_z z (negsuc 32767)) (negsuc 32767) (cond (lt_z (pos 32767) z) (pos 32767) z)

unfoldable pub step_of : ℕ → ℕ → ℤ → ℤ → ℤ → ℤ → ℤ
step_of v s c d h0 h1 = clamp_z (floor_div (signed4 v *ℤ pos (2 ^ (11 + s)) +ℤ c *ℤ h0 +ℤ d *ℤ h1 +ℤ pos 1024) 2048)

-- ---- `floor_div z 2048` is the floor: 2048 times it is at most z, and 2048 times its successor is above z

neg_is : (n : ℕ) → zero < n → neg_ℤ (pos n) ≡ negsuc (n - 1)
neg_is zero h = absurd (omega arith)
neg_is (suc n) h = λ i. negsuc ((one_less n) i)
  where
    one_less : (n : ℕ) → n ≡ suc n - 1
    one_less n = omega arith

pub floor_low : (z : ℤ) → (floor_div z 2048 *ℤ pos 2048) ≤ℤ z
floor_low (pos a) = record { le = yes_leb {a = a / 2048 * 2048} {b = a} (omega arith) }
floor_low (negsuc a) = rw (neg_is (suc (a / 2048) * 2048) (omega arith)) (record { le = yes_leb {a = a} {b = suc (a / 2048) * 2048 - 1} (omega arith) })

high : (a q : ℕ) → a / 2048 ≡ q → negsuc a <ℤ (suc_ℤ (negsuc q) *ℤ pos 2048)
high a zero e = record { lt = tt }
high a (suc q) e = rw (neg_is (suc q * 2048) (omega arith)) (record { lt = yes_ltb {a = suc q * 2048 - 1} {b = a} (omega arith) })

pub floor_high : (z : ℤ) → z <ℤ (suc_ℤ (floor_div z 2048) *ℤ pos 2048)
floor_high (pos a) = record { lt = yes_ltb {a = a} {b = suc (a / 2048) * 2048} (omega arith) }
floor_high (negsuc a) = high a (a / 2048) refl

-- ---- every sample fits 16 bits

-- what lies between the two ends of clamp_z
pub in16 : (z : ℤ) → lt_z z (negsuc 32767) ≡ false → lt_z (pos 32767) z ≡ false → SFits w16 z
in16 (pos n) p q = record { sfits = omega (arith, ltb-false 32767 n q) }
in16 (negsuc n) p q = record { sfits = omega (arith, ltb-false 32767 n p) }

clamp_by : (z : ℤ) (a b : Bool) → lt_z z (negsuc 32767) ≡ a → lt_z (pos 32767) z ≡ b → SFits w16 (cond a (negsuc 32767) (cond b (pos 32767) z))
clamp_by z true b p q = record { sfits = omega arith }
clamp_by z false true p q = record { sfits = omega arith }
clamp_by z false false p q = in16 z p q

pub clamp_fits : (z : ℤ) → SFits w16 (clamp_z z)
unfolding clamp_z
clamp_fits z = clamp_by z (lt_z z (negsuc 32767)) (lt_z (pos 32767) z) refl refl

pub step_fits : (v s : ℕ) (c d h0 h1 : ℤ) → SFits w16 (step_of v s c d h0 h1)
unfolding step_of
step_fits v s c d h0 h1 = clamp_fits _
