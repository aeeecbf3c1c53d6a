-- A gain that begins and ends at one finite value other than 0 never moves. Assumes nothing.
use Rattle.std.specs.Prelude.{◌≡◌, ℕ, zero, suc, ◌+◌, ◌-◌, ◌*◌, ◌%◌, ◌^◌, ◌<◌, ◌≤◌, Bool, true, false, cond, not, ◌&&◌, T, ltb, List, ℤ, pos, negsuc, nat_eq, nat_le, nat_lt, refl, Float}
use Rattle.std.proofs.Math.Path.{sym, ap}
use Rattle.std.proofs.Common.{◌∙◌, subst, mul-one, zero-mul, mul_assoc, mul-pos, zero-lt-suc, lt_of_lt_of_le, lt_of_not-le, mul-lt-mul_of_pos_right, lit≤, pow_pos, pow_mono, shl_lt, le-ltb, lt-ltb, ne_eqb}
use Rattle.std.specs.Bool.{beq}
use Rattle.std.proofs.Math.Nat.{not-le_of_lt, le_of_suc-le-suc}
use native.Mathlib.Omega.{arith}
use Rattle.std.proofs.Math.Dec.{lit<, leb→le, ltb→lt}
use Rattle.std.proofs.Math.Pow.{pow-add}
use Rattle.std.specs.Float.{nan, inf, fin}
use Rattle.std.specs.Float.Ieee.{binary32, up, down, eq, round, sum, add, div, of_int, fits}
use Rattle.std.specs.Float.Ieee.Digits.{back}
use Rattle.std.specs.Float.Ieee.Fits.{up_pos, down_pos, and_l, and_r, round-fits}
use Rattle.std.specs.Float.Ieee.Exact.{HasValue, round_exact}
use Rattle.std.specs.Float.Ieee.Scale.{finite, round_same}
use Rattle.std.specs.Float.Ieee.Back.{round_whole, whole_unique}
use Rattle.floats.specs.Defs.{zero32}
use Rattle.floats.specs.Whole.{round_at_lem, sub_same}
use Rattle.gain.specs.Same.{cross, is_odd, size_pos, no_zero, same}
use Rattle.gain.specs.Gain.{step_of, mixed, level}
use Rattle.gain.specs.Laws.{level_is}

-- ---- a float of the format is what its own value rounds to
module _ (s : Bool) (m : ℕ) where
  abbrev M : ℕ
  M = suc m

  own_value : (e : ℤ) → T (fits binary32 (fin s M e)) → HasValue (round binary32 s (M * up e) (down e)) s (M * up e) (down e)
  unfolding fits
  own_value (pos k) f =
      let A = nat_eq (M % 2) 1 in
      let B = ltb M (2 ^ 24) in
      let C = nat_le 1 (2 ^ 149) in
      let D = ltb (M * 2 ^ k) (2 ^ 128 * 1) in
      let small : M < 2 ^ 24 = ltb→lt M (2 ^ 24) (and_r A B (and_l (A && B) C (and_l (A && B && C) D f))) in
      let fine : M * 2 ^ k < 2 ^ 128 = ltb→lt (M * 2 ^ k) (2 ^ 128 * 1) (and_r (A && B && C) D f) in
      let e : M * 2 ^ (k + 149) ≡ M * 2 ^ k * 2 ^ 149 = ap (λ (x : ℕ). M * x) (pow-add 2 k 149) ∙ sym (mul_assoc M (2 ^ k) (2 ^ 149)) in
      round_exact binary32 s (M * 2 ^ k) 1 M (k + 149) (lit< tt) small
      (subst (λ (x : ℕ). x < 2 ^ (149 + 128)) (sym e) (mul-lt-mul_of_pos_right fine (pow_pos 149)))
      (sym (mul-one (M * 2 ^ (k + 149)) ∙ e))
  own_value (negsuc k) f =
      let A = nat_eq (M % 2) 1 in
      let B = ltb M (2 ^ 24) in
      let C = nat_le (2 ^ suc k) (2 ^ 149) in
      let D = ltb (M * 1) (2 ^ 128 * 2 ^ suc k) in
      let small : M < 2 ^ 24 = ltb→lt M (2 ^ 24) (and_r A B (and_l (A && B) C (and_l (A && B && C) D f))) in
      let g : 2 ^ suc k ≤ 2 ^ 149 = leb→le (2 ^ suc k) (2 ^ 149) (and_r (A && B) C (and_l (A && B && C) D f)) in
      let q : 2 ^ 149 < 2 ^ 150 = lit< tt in
      let k_le : suc k ≤ 149 = le_of_suc-le-suc (lt_of_not-le (λ (h : 150 ≤ suc k). not-le_of_lt (lt_of_lt_of_le q (pow_mono {i = 150} {j = suc k} h)) g)) in
      let j = 149 - suc k in
      let b : 24 + j ≤ 149 + 128 = omega arith in
      let split : 2 ^ 149 ≡ 2 ^ j * 2 ^ suc k = sym (ap (λ (z : ℕ). 2 ^ z) (back 149 (suc k) k_le)) ∙ pow-add 2 j (suc k) in
      round_exact binary32 s (M * 1) (2 ^ suc k) M j (pow_pos (suc k)) small (lt_of_lt_of_le (shl_lt 24 j small) (pow_mono b))
      (ap (λ (x : ℕ). x * 2 ^ 149) (mul-one M) ∙ ap (λ (x : ℕ). M * x) split ∙ sym (mul_assoc M (2 ^ j) (2 ^ suc k)))

  one_way : (x : Float) (e : ℤ) → T (fits binary32 x) → T (fits binary32 (fin s M e)) → HasValue x s (M * up e) (down e) → x ≡ fin s M e
  one_way nan e p q v = absurd v
  one_way (inf t) e p q v = absurd v
  one_way (fin t zero d) e p q v =
      let a : zero * up d * down e ≡ M * up e * down d = v.1 in
      let z : zero * up d * down e ≡ 0 = ap (λ (x : ℕ). x * down e) (zero-mul (up d)) ∙ zero-mul (down e) in
      let b : 0 < M * up e * down d = size_pos m e d in
      absurd (omega arith)
  one_way (fin t (suc n) d) e p q v =
      let r = cross (suc n) M d e (is_odd binary32 t n d p) (is_odd binary32 s m e q) v.1 in
      λ i. fin (v.0 i) (r.0 i) (r.1 i)

  own : (e : ℤ) → T (fits binary32 (fin s M e)) → round binary32 s (M * up e) (down e) ≡ fin s M e
  own e f = one_way (round binary32 s (M * up e) (down e)) e (round-fits binary32 s (M * up e) (down e)) f (own_value e f)

  at_own : (e : ℤ) (a c : ℕ) → T (fits binary32 (fin s M e)) → 0 < c → a * down e ≡ M * up e * c → round binary32 s a c ≡ fin s M e
  at_own e a c f p h = round_same binary32 s a c (M * up e) (down e) p (down_pos e) h ∙ own e f

-- ---- v + 0
plus_zero : (s : Bool) (m : ℕ) (e : ℤ) → T (fits binary32 (fin s (suc m) e)) → add binary32 (fin s (suc m) e) zero32 ≡ fin s (suc m) e
unfolding add sum
plus_zero s m e f = go s f
  where
    one_down : 0 < down e * 1
    one_down = let p = down_pos e in omega arith

    times : (x : ℕ) → x ≡ suc m * up e → x * down e ≡ suc m * up e * (down e * 1)
    times x h = ap (λ (y : ℕ). y * down e) h ∙ ap (λ (y : ℕ). suc m * up e * y) (sym (mul-one (down e)))

    some : 0 < suc m * up e
    some = mul-pos (zero-lt-suc m) (up_pos e)

    go : (s : Bool) → T (fits binary32 (fin s (suc m) e))
        → cond (beq s false) (round binary32 s (suc m * up e * 1 + 0 * 1 * down e) (down e * 1))
        (cond (nat_lt (suc m * up e * 1) (0 * 1 * down e)) (round binary32 false (0 * 1 * down e - suc m * up e * 1) (down e * 1))
        (round binary32 (s && nat_lt (0 * 1 * down e) (suc m * up e * 1)) (suc m * up e * 1 - 0 * 1 * down e) (down e * 1))) ≡ fin s (suc m) e
    go false f = at_own false m e (suc m * up e * 1 + 0 * 1 * down e) (down e * 1) f one_down (times _ (omega arith))
    go true f =
        let p = some in
        let no : ltb (suc m * up e * 1) (0 * 1 * down e) ≡ false = le-ltb (suc m * up e * 1) (0 * 1 * down e) (omega arith) in
        let yes : ltb (0 * 1 * down e) (suc m * up e * 1) ≡ true = lt-ltb (0 * 1 * down e) (suc m * up e * 1) (omega arith) in
        rw (no, yes) (at_own true m e (suc m * up e * 1 - 0 * 1 * down e) (down e * 1) f one_down (times _ (omega arith)))

-- ---- 0 / n
no_step : (n : ℕ) → 0 < n → n ≤ 2 ^ 24 → div binary32 zero32 (of_int binary32 (pos n)) ≡ zero32
unfolding of_int div fits
no_step n p l = go (round binary32 false n 1) (round_whole binary32 false n l)
  where
    go : (y : Float) → HasValue y false n 1 → div binary32 zero32 y ≡ zero32
    go nan v = absurd v
    go (inf s) v = absurd v
    go (fin true k d) v = absurd (subst T v.0 tt)
    go (fin false zero d) v =
        let a : zero * up d * 1 ≡ n * down d = v.1 in
        let b : 0 < n * down d = mul-pos p (down_pos d) in
        let z : zero * up d ≡ 0 = zero-mul (up d) in
        absurd (omega arith)
    go (fin false (suc k) d) v =
        rw (ne_eqb (suc k) 0 (λ (h : suc k ≡ 0). omega arith))
        (whole_unique binary32 _ zero32 false 0 (round-fits binary32 false (0 * 1 * down d) (suc k * up d * 1)) tt
        (round_at_lem false (0 * 1 * down d) 0 (suc k * up d * 1) (let w = mul-pos (zero-lt-suc k) (up_pos d) in omega arith) (lit≤ tt) (omega arith)) (refl, refl))

-- ---- the gain never moves
pub still : (v : Float) (n : ℕ) → T (fits binary32 v) → T (finite v) → T (not (eq v zero32)) → 0 < n → n ≤ 2 ^ 24 → add binary32 v (step_of v v n) ≡ v
unfolding step_of eq
still nan n f t z p l = absurd t
still (inf s) n f t z p l = absurd t
still (fin s zero e) n f t z p l = absurd (no_zero s (zero * up e * 1) (0 * 1 * down e) (omega arith) (omega arith) z)
still (fin s (suc m) e) n f t z p l = rw (sub_same (fin s (suc m) e) tt, no_step n p l) (plus_zero s m e f)

-- the law: each sample is multiplied by just that value
pub mixed_still : (from to : Float) (n : ℕ) → T (fits binary32 from) → T (fits binary32 to) → T (finite from) → T (eq to from) → T (not (eq from zero32)) → 0 < n → n ≤ 2 ^ 24
    → (xs ys : List Float) → mixed (step_of from to n) from xs ys ≡ level from xs ys
mixed_still from to n f g t h z p l xs ys =
    let e : to ≡ from = same binary32 to from g f h z in
    rw e (sym (level_is (step_of from from n) from (still from n f t z p l) xs ys))
