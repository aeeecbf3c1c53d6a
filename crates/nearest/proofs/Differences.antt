-- An integer as the difference of two natural numbers: sums, products, floors and the decoder's clamp of such. Assumes nothing.
use Prim.Native.Nat.{ℕ, zero, suc, ◌+◌, ◌*◌, ◌-◌, ◌/◌, ◌≤◌, ◌<◌, min}
use mathlib.Core.Path.{◌≡◌, refl, ap, ◌∙◌}
use mathlib.Core.Bool.{Bool, true, false, cond}
use native.Mathlib.Nat.{add-mul}
use native.Mathlib.Omega.{arith}
use borrow.Author.Tests.{ltb-true, ltb-false}
use lib.Dec.{ltb}
use lib.IntN.{ℤ, pos, negsuc, nat_abs, neg_ℤ, sub_ℕ, ◌+ℤ◌, ◌*ℤ◌}
use lib.Signed.{shr_z, ◌<ℤ◌}
use mir.Facts.{ltb_yes}
use mir.Syntax.{w16}
use mir.Val.{SFits}
use Rattle.adpcm.specs.Step.{clamp_z}
use Rattle.nearest.specs.Levels.{offset_binary, apart_of}

-- a - b as an integer, by whether a < b; each law on differences goes by these two cases
abbrev split : Bool → ℕ → ℕ → ℤ
split t a b = cond t (negsuc (b - suc a)) (pos (a - b))

same_by : (a b e f : ℕ) (t u : Bool) → ltb a b ≡ t → ltb e f ≡ u → a + f ≡ e + b → split t a b ≡ split u e f
same_by a b e f true true p q h =
    let l : a < b = ltb-true a b p in
    let n : b - suc a ≡ f - suc e = omega arith in
    ap negsuc n
same_by a b e f true false p q h = absurd (omega (arith, ltb-true a b p, ltb-false e f q))
same_by a b e f false true p q h = absurd (omega (arith, ltb-false a b p, ltb-true e f q))
same_by a b e f false false p q h =
    let l : b ≤ a = ltb-false a b p in
    let m : f ≤ e = ltb-false e f q in
    let n : a - b ≡ e - f = omega arith in
    ap pos n

-- two differences are the same where the sums across are
pub diff_same : (a b e f : ℕ) → a + f ≡ e + b → sub_ℕ a b ≡ sub_ℕ e f
diff_same a b e f h = same_by a b e f (ltb a b) (ltb e f) refl refl h

pos_by : (n : ℕ) (t : Bool) → ltb n 0 ≡ t → pos n ≡ split t n 0
pos_by n true p = absurd (omega (arith, ltb-true n 0 p))
pos_by n false p = let e : n ≡ n - 0 = omega arith in ap pos e

pub diff_pos : (n : ℕ) → pos n ≡ sub_ℕ n 0
diff_pos n = pos_by n (ltb n 0) refl

neg_by : (n : ℕ) (t : Bool) → ltb 0 (suc n) ≡ t → negsuc n ≡ split t 0 (suc n)
neg_by n true p = let e : n ≡ suc n - 1 = omega arith in ap negsuc e
neg_by n false p = absurd (omega (arith, ltb-false 0 (suc n) p))

pub diff_neg : (n : ℕ) → negsuc n ≡ sub_ℕ 0 (suc n)
diff_neg n = neg_by n (ltb 0 (suc n)) refl

pub diff_minus : (n : ℕ) → neg_ℤ (pos n) ≡ sub_ℕ 0 n
diff_minus zero = refl
diff_minus (suc n) = diff_neg n

add_by : (a b e f : ℕ) (t u : Bool) → ltb a b ≡ t → ltb e f ≡ u → split t a b +ℤ split u e f ≡ sub_ℕ (a + e) (b + f)
add_by a b e f true true p q =
    let n = suc (b - suc a + (f - suc e)) in
    diff_neg n ∙ diff_same 0 (suc n) (a + e) (b + f) (omega (arith, ltb-true a b p, ltb-true e f q))
add_by a b e f true false p q = diff_same (e - f) (suc (b - suc a)) (a + e) (b + f) (omega (arith, ltb-true a b p, ltb-false e f q))
add_by a b e f false true p q = diff_same (a - b) (suc (f - suc e)) (a + e) (b + f) (omega (arith, ltb-false a b p, ltb-true e f q))
add_by a b e f false false p q =
    diff_pos (a - b + (e - f)) ∙ diff_same (a - b + (e - f)) 0 (a + e) (b + f) (omega (arith, ltb-false a b p, ltb-false e f q))

pub diff_add : (a b e f : ℕ) → sub_ℕ a b +ℤ sub_ℕ e f ≡ sub_ℕ (a + e) (b + f)
diff_add a b e f = add_by a b e f (ltb a b) (ltb e f) refl refl

mul_by : (a b m : ℕ) (t : Bool) → ltb a b ≡ t → split t a b *ℤ pos m ≡ sub_ℕ (a * m) (b * m)
mul_by a b m true p =
    let e : a + suc (b - suc a) ≡ b = omega (arith, ltb-true a b p) in
    let f : (a + suc (b - suc a)) * m ≡ b * m = ap (λ (n : ℕ). n * m) e in
    diff_minus (suc (b - suc a) * m) ∙ diff_same 0 (suc (b - suc a) * m) (a * m) (b * m) (omega (arith, f, add-mul a (suc (b - suc a)) m))
mul_by a b m false p =
    let e : b + (a - b) ≡ a = omega (arith, ltb-false a b p) in
    let f : (b + (a - b)) * m ≡ a * m = ap (λ (n : ℕ). n * m) e in
    diff_pos ((a - b) * m) ∙ diff_same ((a - b) * m) 0 (a * m) (b * m) (omega (arith, f, add-mul b (a - b) m))

pub diff_mul : (a b m : ℕ) → sub_ℕ a b *ℤ pos m ≡ sub_ℕ (a * m) (b * m)
diff_mul a b m = mul_by a b m (ltb a b) refl

floor_by : (a k : ℕ) (t u : Bool) → ltb a (2048 * k) ≡ t → ltb (a / 2048) k ≡ u → shr_z (split t a (2048 * k)) 2048 ≡ split u (a / 2048) k
floor_by a k true true p q =
    let l : a < 2048 * k = ltb-true a (2048 * k) p in
    let m : a / 2048 < k = ltb-true (a / 2048) k q in
    let e : (2048 * k - suc a) / 2048 ≡ k - suc (a / 2048) = omega arith in
    ap negsuc e
floor_by a k true false p q = absurd (omega (arith, ltb-true a (2048 * k) p, ltb-false (a / 2048) k q))
floor_by a k false true p q = absurd (omega (arith, ltb-false a (2048 * k) p, ltb-true (a / 2048) k q))
floor_by a k false false p q =
    let l : 2048 * k ≤ a = ltb-false a (2048 * k) p in
    let m : k ≤ a / 2048 = ltb-false (a / 2048) k q in
    let e : (a - 2048 * k) / 2048 ≡ a / 2048 - k = omega arith in
    ap pos e

-- a whole multiple of 2048 comes out of the floor
pub diff_floor : (a k : ℕ) → shr_z (sub_ℕ a (2048 * k)) 2048 ≡ sub_ℕ (a / 2048) k
diff_floor a k = floor_by a k (ltb a (2048 * k)) (ltb (a / 2048) k) refl refl

clamp_low : (n y o : ℕ) (t : Bool) → ltb 32767 n ≡ t → n ≡ o - suc y → y < o
    → offset_binary (cond t (negsuc 32767) (negsuc n)) ≡ min 65535 (y + 32768 - o)
unfolding offset_binary
clamp_low n y o true p e h = omega (arith, ltb-true 32767 n p)
clamp_low n y o false p e h = omega (arith, ltb-false 32767 n p)

clamp_high : (n y o : ℕ) (t : Bool) → ltb 32767 n ≡ t → n ≡ y - o → o ≤ y
    → offset_binary (cond t (pos 32767) (pos n)) ≡ min 65535 (y + 32768 - o)
unfolding offset_binary
clamp_high n y o true p e h = omega (arith, ltb-true 32767 n p)
clamp_high n y o false p e h = omega (arith, ltb-false 32767 n p)

clamp_by : (y o : ℕ) (t : Bool) → ltb y o ≡ t → offset_binary (clamp_z (split t y o)) ≡ min 65535 (y + 32768 - o)
unfolding clamp_z
clamp_by y o true p = clamp_low (o - suc y) y o (ltb 32767 (o - suc y)) refl refl (ltb-true y o p)
clamp_by y o false p = clamp_high (y - o) y o (ltb 32767 (y - o)) refl refl (ltb-false y o p)

-- a clamped difference, in offset binary: the clamp at -32768 is a subtraction that stops at 0
pub diff_clamp : (y o : ℕ) → offset_binary (clamp_z (sub_ℕ y o)) ≡ min 65535 (y + 32768 - o)
diff_clamp y o = clamp_by y o (ltb y o) refl

abs_by : (a b : ℕ) (t : Bool) → ltb a b ≡ t → nat_abs (split t a b) ≡ apart_of a b
abs_by a b true p = omega (arith, ltb-true a b p)
abs_by a b false p = omega (arith, ltb-false a b p)

pub diff_abs : (a b : ℕ) → nat_abs (sub_ℕ a b) ≡ apart_of a b
diff_abs a b = abs_by a b (ltb a b) refl

lower_by : (y : ℕ) → y ≤ 65535 → (t : Bool) → ltb y 32768 ≡ t → SFits w16 (split t y 32768)
lower_by y h true e = record { sfits = omega arith }
lower_by y h false e = record { sfits = omega (arith, ltb-false y 32768 e) }

-- a number of 0 to 65535 is a sample's in offset binary
pub offset_fits : (y : ℕ) → y ≤ 65535 → SFits w16 (sub_ℕ y 32768)
offset_fits y h = lower_by y h (ltb y 32768) refl

less_by : (a b n : ℕ) (t u : Bool) → ltb a n ≡ t → ltb b n ≡ u → split t a n <ℤ split u b n → a < b
less_by a b n true true p q l = omega (arith, ltb_yes {a = n - suc b} {b = n - suc a} l.lt, ltb-true a n p, ltb-true b n q)
less_by a b n true false p q l = omega (arith, ltb-true a n p, ltb-false b n q)
less_by a b n false true p q l = absurd l.lt
less_by a b n false false p q l = omega (arith, ltb_yes {a = a - n} {b = b - n} l.lt, ltb-false a n p, ltb-false b n q)

-- of two differences from one number, the lower is that of the lower
pub diff_less : (a b n : ℕ) → sub_ℕ a n <ℤ sub_ℕ b n → a < b
diff_less a b n = less_by a b n (ltb a n) (ltb b n) refl refl
