-- The library's `floor` is `floor_of` at every float that fits: what is whole stays, and of the rest both take the whole number below.
-- Assumes nothing.
use Rattle.std.proofs.Common.{◌≡◌, ℕ, zero, suc, ◌+◌, ◌-◌, ◌*◌, ◌/◌, ◌%◌, ◌^◌, ◌<◌, Bool, true, false, cond, ◌&&◌, T, eqb, ltb, leb, ℤ, pos, negsuc, sym, refl, ap, ◌∙◌, subst, add-zero, div-le_self, div-add-mod', mod-lt, mul-one, mul_assoc, mul-lt-mul_of_pos_right, le_trans, arith, ltb→lt, eqb-true, eq-eqb, ne_eqb, pow-add, pow_pos, lit<}
use native.Mathlib.Nat.{div-one, div-eq_of_lt-le}
use Rattle.std.specs.Float.{round_with, floor}
use lib.Ieee.{Float, nan, inf, fin, binary32, up, down, round, fits}
use lib.Ieee.Fits.{down_pos, and_l, and_r, round-fits}
use lib.Ieee.Exact.{HasValue, round_exact}
use lib.Ieee.Back.{round_whole, whole_unique}
use Rattle.floats.specs.Defs.{floor_of}
use Rattle.floats.specs.Unit.{floor_stays}

-- ---- a number that is not whole moves
moves : (s : Bool) (m : ℕ) (e : ℤ) → (m * up e % down e ≡ 0 → ⊥)
    → floor_of (fin s m e) ≡ cond s (round binary32 true (suc (m * up e / down e)) 1) (round binary32 false (m * up e / down e) 1)
unfolding floor_of
moves s m e h =
    ap (λ (t : Bool). cond t (fin s m e) (cond s (round binary32 true (suc (m * up e / down e)) 1) (round binary32 false (m * up e / down e) 1))) (ne_eqb (m * up e % down e) 0 h)

-- ---- a whole number that fits is its own rounding
fine : (m a : ℕ) → m * 2 ^ a < 2 ^ 128 * 1 → m * 2 ^ (a + 149) < 2 ^ (149 + 128)
fine m a h = rw (pow-add 2 a 149, ← mul_assoc) (mul-lt-mul_of_pos_right h (pow_pos 149))

scaled : (m a : ℕ) → m * 2 ^ a * 2 ^ 149 ≡ m * 2 ^ (a + 149) * 1
scaled m a = mul_assoc m (2 ^ a) (2 ^ 149) ∙ sym (ap (λ (z : ℕ). m * z) (pow-add 2 a 149)) ∙ sym (mul-one _)

exact : (s : Bool) (m : ℕ) (e : ℤ) → T (fits binary32 (fin s m e)) → HasValue (round binary32 s (m * up e / down e) 1) s (m * up e / down e) 1
unfolding fits
exact s zero e f = round_whole binary32 s _ (le_trans (div-le_self (zero * up e) (down e)) (omega arith))
exact s (suc m) (negsuc k) f =
    let A = eqb (suc m % 2) 1 in
    let B = ltb (suc m) (2 ^ 24) in
    let C : Bool = _ in
    let D : Bool = _ in
    let l : suc m < 2 ^ 24 = ltb→lt (suc m) (2 ^ 24) (and_r A B (and_l (A && B) C (and_l (A && B && C) D f))) in
    round_whole binary32 s _ (le_trans (div-le_self (suc m * 1) (2 ^ suc k)) (omega arith))
exact s (suc m) (pos a) f =
    let A = eqb (suc m % 2) 1 in
    let B = ltb (suc m) (2 ^ 24) in
    let C = leb 1 (2 ^ 149) in
    let D = ltb (suc m * 2 ^ a) (2 ^ 128 * 1) in
    let l : suc m < 2 ^ 24 = ltb→lt (suc m) (2 ^ 24) (and_r A B (and_l (A && B) C (and_l (A && B && C) D f))) in
    let t : suc m * 2 ^ a < 2 ^ 128 * 1 = ltb→lt (suc m * 2 ^ a) (2 ^ 128 * 1) (and_r (A && B && C) D f) in
    rw (div-one (suc m * 2 ^ a))
    (round_exact binary32 s (suc m * 2 ^ a) 1 (suc m) (a + 149) (lit< tt) l (fine (suc m) a t) (scaled (suc m) a))

stays : (s : Bool) (m : ℕ) (e : ℤ) → T (fits binary32 (fin s m e)) → m * up e % down e ≡ 0 → round binary32 s (m * up e / down e) 1 ≡ floor_of (fin s m e)
stays s m e f h =
    let q = m * up e / down e in
    whole_unique binary32 (round binary32 s q 1) (fin s m e) s q (round-fits binary32 s q 1) f (exact s m e f)
    (refl, mul-one (m * up e) ∙ sym (div-add-mod' (m * up e) (down e)) ∙ ap (λ (k : ℕ). q * down e + k) h ∙ add-zero (q * down e))
    ∙ sym (floor_stays s m e h)

-- ---- a quotient rounded up
module _ (n d : ℕ) (p : 0 < d) where
  parts : (n ≡ n / d * d + n % d) × (n % d < d)
  parts = (sym (div-add-mod' n d), mod-lt n p)

  up_whole : n % d ≡ 0 → (n + d - 1) / d ≡ n / d
  up_whole h = div-eq_of_lt-le {k = n / d} d (omega (arith, parts)) (omega (arith, parts))

  up_part : (n % d ≡ 0 → ⊥) → (n + d - 1) / d ≡ suc (n / d)
  up_part h = div-eq_of_lt-le {k = suc (n / d)} d (omega (arith, parts)) (omega (arith, parts))

-- ---- the law
pub floor_same : (x : Float) → T (fits binary32 x) → floor binary32 x ≡ floor_of x
unfolding round_with floor_of
floor_same nan f = refl
floor_same (inf s) f = refl
floor_same (fin false m e) f = go (eqb (m * up e % down e) 0) refl
  where
    go : (b : Bool) → eqb (m * up e % down e) 0 ≡ b → round binary32 false (m * up e / down e) 1 ≡ floor_of (fin false m e)
    go true h = stays false m e f (eqb-true (m * up e % down e) 0 h)
    go false h = sym (moves false m e (λ z. subst T (sym (eq-eqb (m * up e % down e) 0 z) ∙ h) tt))
floor_same (fin true m e) f = go (eqb (m * up e % down e) 0) refl
  where
    go : (b : Bool) → eqb (m * up e % down e) 0 ≡ b → round binary32 true ((m * up e + down e - 1) / down e) 1 ≡ floor_of (fin true m e)
    go true h =
        let z = eqb-true (m * up e % down e) 0 h in
        ap (λ (k : ℕ). round binary32 true k 1) (up_whole (m * up e) (down e) (down_pos e) z) ∙ stays true m e f z
    go false h =
        let z : m * up e % down e ≡ 0 → ⊥ = λ z. subst T (sym (eq-eqb (m * up e % down e) 0 z) ∙ h) tt in
        ap (λ (k : ℕ). round binary32 true k 1) (up_part (m * up e) (down e) (down_pos e) z) ∙ sym (moves true m e z)
