-- x - floor(x) lies in [0, 1) for every finite x from 0 up. Assumes nothing.
use Rattle.std.specs.Prelude.{◌≡◌, ℕ, zero, suc, ◌+◌, ◌-◌, ◌*◌, ◌/◌, ◌%◌, ◌^◌, ◌<◌, ◌≤◌, Bool, true, false, cond, ◌&&◌, ◌||◌, T, ltb, ℤ, pos, negsuc, ◌==◌, nat_eq, nat_le, nat_lt, refl, Float}
use Rattle.std.proofs.Common.{sym, ◌∙◌, subst, mul-one, mul_assoc, mul_comm, mul_left_comm, div-add-mod', le_trans, lt_of_le_of_lt, lt_of_lt_of_le, mul-pos, mod-lt, div-le_self, mul-le-mul_right, mul-lt-mul_of_pos_right, lt_of_not-le, not-le_of_lt, le_of_suc-le-suc, arith, lit<, eqb→eq, leb→le, ltb→lt, pow-add, pow_pos, pow_mono, shl_lt, le-ltb, lt-ltb, ltb-false, eqb-true, eq-eqb}
use Rattle.std.proofs.Math.Path.{ap}
use Rattle.std.proofs.Math.Nat.{mul-mod_left, mul_right_comm, mod-one, zero-mod, mod-le, add-mul}
use Rattle.std.specs.Float.Ieee.{nan, binary32, up, down, lt, le, eq, level, round, sum, add, sub, neg, fits}
use Rattle.std.specs.Float.{inf, fin}
use Rattle.std.specs.Float.Ieee.Digits.{back}
use Rattle.std.specs.Float.Ieee.Fits.{down_pos, and_l, and_r, and_i}
use Rattle.std.specs.Float.Ieee.Exact.{HasValue, round_exact}
use Rattle.std.specs.Float.Ieee.Scale.{finite}
use Rattle.std.specs.Float.Ieee.Back.{round_whole}
use Rattle.floats.specs.Defs.{floor_of, zero32, one}
use Rattle.floats.specs.Whole.{sub_same}

-- x is in [0, 1); -0 counts
abbrev pub in_unit : Float → Bool
in_unit x = le zero32 x && lt x one

zero_in : T (in_unit zero32)
unfolding le lt eq
zero_in = tt

-- ---- the floor of a whole number is itself
pub floor_stays : (s : Bool) (m : ℕ) (e : ℤ) → m * up e % down e ≡ 0 → floor_of (fin s m e) ≡ fin s m e
unfolding floor_of
floor_stays s m e h =
    ap (λ (z : ℕ). cond (z == 0) (fin s m e) (cond s (round binary32 true (suc (m * up e / down e)) 1) (round binary32 false (m * up e / down e) 1))) h

pub floor_whole : (x : Float) (s : Bool) (n : ℕ) → HasValue x s n 1 → floor_of x ≡ x
floor_whole (fin t m e) s n v =
    floor_stays t m e (ap (λ (z : ℕ). z % down e) (sym (mul-one (m * up e)) ∙ v.1) ∙ mul-mod_left n (down e))
floor_whole nan s n v = absurd v
floor_whole (inf t) s n v = absurd v

-- ---- a value below 1
pub or_i : (a b : Bool) → (a ≡ false → T b) → T (a || b)
or_i true b h = tt
or_i false b h = h refl

pub not_less : (m : ℕ) (e : ℤ) → T (le zero32 (fin false m e))
unfolding le lt eq
not_less m e = or_i (nat_lt (0 * 1 * down e) (m * up e * 1)) (level false (0 * 1 * down e) false (m * up e * 1)) (λ h. go (ltb-false (0 * 1 * down e) (m * up e * 1) h))
  where
    go : m * up e * 1 ≤ 0 * 1 * down e → T (level false (0 * 1 * down e) false (m * up e * 1))
    go h = and_i (0 * 1 * down e == m * up e * 1) true (subst T (sym (eq-eqb (0 * 1 * down e) (m * up e * 1) (omega arith))) tt) tt

under_one : (x : Float) (a c : ℕ) → a < c → HasValue x false a c → T (in_unit x)
unfolding lt
under_one nan a c h v = absurd v
under_one (inf s) a c h v = absurd v
under_one (fin true m e) a c h v = absurd (subst T v.0 tt)
under_one (fin false m e) a c h v =
    and_i (le zero32 (fin false m e)) (lt (fin false m e) one) (not_less m e)
    (subst T (sym (lt-ltb (m * up e * 1) (1 * down e) (le_of (lt_of_not-le (λ (g : down e ≤ m * up e). not-le_of_lt (strict) (le_trans (mul-le-mul_right c g) (le_of_eq' v.1))))))) tt)
  where
    le_of : m * up e < down e → m * up e * 1 < 1 * down e
    le_of h = omega arith

    strict : a * down e < down e * c
    strict = subst (λ (z : ℕ). a * down e < z) (mul_comm c (down e)) (mul-lt-mul_of_pos_right h (down_pos e))

    le_of_eq' : {p q : ℕ} → p ≡ q → p ≤ q
    le_of_eq' {p} {q} h = omega arith

-- ---- m / 2 ^ (k + 1) without its whole part, for an m of 24 digits
diff : (A B p q : ℕ) → A ≡ p + q → B ≡ p → A - B ≡ q
diff A B p q a b = omega arith

order : (A B p q : ℕ) → A ≡ p + q → B ≡ p → B ≤ A
order A B p q a b = omega arith

module _ (m k : ℕ) (l : m < 2 ^ 24) (g : 2 ^ suc k ≤ 2 ^ 149) where
  abbrev D : ℕ
  D = 2 ^ suc k

  abbrev c : ℕ
  c = m * 1 / D

  abbrev r : ℕ
  r = m * 1 % D

  k_le : suc k ≤ 149
  k_le =
      let q : 2 ^ 149 < 2 ^ 150 = lit< tt in
      le_of_suc-le-suc (lt_of_not-le (λ (h : 150 ≤ suc k). not-le_of_lt (lt_of_lt_of_le q (pow_mono {i = 150} {j = suc k} h)) g))

  abbrev j : ℕ
  j = 149 - suc k

  r_lt : r < 2 ^ 24
  r_lt = lt_of_le_of_lt (mod-le (m * 1) D) (omega arith)

  split : 2 ^ 149 ≡ 2 ^ j * D
  split = sym (ap (λ (z : ℕ). 2 ^ z) (back 149 (suc k) k_le)) ∙ pow-add 2 j (suc k)

  exactly : (w : ℕ) → 0 < w → HasValue (round binary32 false (r * w) (D * w)) false (r * w) (D * w)
  exactly w p =
      round_exact binary32 false (r * w) (D * w) r j (mul-pos (pow_pos (suc k)) p) r_lt
      (lt_of_lt_of_le (shl_lt 24 j r_lt) (pow_mono (fine)))
      (ap (λ (z : ℕ). r * w * z) split ∙ simp (mul_assoc, mul_comm, mul_left_comm))
    where
      fine : 24 + j ≤ 149 + 128
      fine = omega arith

  frac_in : (y : Float) → HasValue y false c 1 → T (in_unit (sub binary32 (fin false m (negsuc k)) y))
  unfolding sub add neg sum
  frac_in nan v = absurd v
  frac_in (inf s) v = absurd v
  frac_in (fin true n d) v = absurd (subst T v.0 tt)
  frac_in (fin false n d) v =
      let A = m * 1 * down d in
      let B = n * up d * D in
      let C = D * down d in
      let b : B ≡ c * D * down d = ap (λ (z : ℕ). z * D) (sym (mul-one (n * up d)) ∙ v.1) ∙ mul_right_comm c (down d) D in
      let a : A ≡ c * D * down d + r * down d = ap (λ (z : ℕ). z * down d) (sym (div-add-mod' (m * 1) D)) ∙ add-mul (c * D) r (down d) in
      under_one _ (r * down d) C (mul-lt-mul_of_pos_right (mod-lt (m * 1) (pow_pos (suc k))) (down_pos d))
      (subst (λ (p : Bool). HasValue (cond p (round binary32 true (B - A) C) (round binary32 false (A - B) C)) false (r * down d) C)
      (sym (le-ltb A B (order A B (c * D * down d) (r * down d) a b)))
      (subst (λ (z : ℕ). HasValue (round binary32 false z C) false (r * down d) C) (sym (diff A B (c * D * down d) (r * down d) a b)) (exactly (down d) (down_pos d))))

-- ---- the law
-- what is whole leaves nothing
whole_in : (s : Bool) (m : ℕ) (e : ℤ) → m * up e % down e ≡ 0 → T (in_unit (sub binary32 (fin s m e) (floor_of (fin s m e))))
whole_in s m e h =
    subst (λ (x : Float). T (in_unit x)) (sym (ap (sub binary32 (fin s m e)) (floor_stays s m e h) ∙ sub_same (fin s m e) tt)) zero_in

pub minus_zero : (m : ℕ) (e : ℤ) → T (le zero32 (fin true m e)) → m * up e ≡ 0
unfolding le lt eq
minus_zero m e h =
    let a : 0 * 1 * down e ≡ m * up e * 1 = eqb→eq (0 * 1 * down e) (m * up e * 1) (and_l (0 * 1 * down e == m * up e * 1) _ h) in
    omega arith

part_in : (m k : ℕ) → m < 2 ^ 24 → 2 ^ suc k ≤ 2 ^ 149 → (b : Bool) → (m * 1 % 2 ^ suc k == 0) ≡ b → T (in_unit (sub binary32 (fin false m (negsuc k)) (floor_of (fin false m (negsuc k)))))
unfolding floor_of
part_in m k l g true h = whole_in false m (negsuc k) (eqb-true (m * 1 % 2 ^ suc k) 0 h)
part_in m k l g false h =
    subst (λ (p : Bool). T (in_unit (sub binary32 (fin false m (negsuc k)) (cond p (fin false m (negsuc k)) (round binary32 false (m * 1 / 2 ^ suc k) 1))))) (sym h)
    (frac_in m k l g (round binary32 false (m * 1 / 2 ^ suc k) 1) (round_whole binary32 false (m * 1 / 2 ^ suc k) (le_trans (div-le_self (m * 1) (2 ^ suc k)) (omega arith))))

pub rest_in_unit : (x : Float) → T (fits binary32 x) → T (finite x) → T (le zero32 x) → T (in_unit (sub binary32 x (floor_of x)))
unfolding fits
rest_in_unit (fin true m e) f n h = whole_in true m e (ap (λ (z : ℕ). z % down e) (minus_zero m e h) ∙ zero-mod (down e))
rest_in_unit (fin false m (pos k)) f n h = whole_in false m (pos k) (mod-one (m * 2 ^ k))
rest_in_unit (fin false zero (negsuc k)) f n h = whole_in false zero (negsuc k) (zero-mod (2 ^ suc k))
rest_in_unit (fin false (suc m) (negsuc k)) f n h =
    let A = nat_eq (suc m % 2) 1 in
    let B = ltb (suc m) (2 ^ 24) in
    let C = nat_le (2 ^ suc k) (2 ^ 149) in
    let D = ltb (suc m * 1) (2 ^ 128 * 2 ^ suc k) in
    part_in (suc m) k (ltb→lt (suc m) (2 ^ 24) (and_r A B (and_l (A && B) C (and_l (A && B && C) D f)))) (leb→le (2 ^ suc k) (2 ^ 149) (and_r (A && B) C (and_l (A && B && C) D f))) (suc m * 1 % 2 ^ suc k == 0) refl
rest_in_unit nan f n h = elim n [ ]
rest_in_unit (inf _) f n h = elim n [ ]
