-- Ranges from 0 to a whole number: sums and products stay in theirs. Assumes nothing.
use Rattle.std.specs.Prelude.{◌≡◌, ℕ, ◌+◌, ◌-◌, ◌*◌, ◌/◌, ◌^◌, ◌<◌, ◌≤◌, Bool, true, false, cond, ◌||◌, T, ◌==◌, nat_lt, Float}
use Rattle.std.proofs.Math.Path.{refl, subst}
use Rattle.std.proofs.Common.{sym, ap, ◌∙◌, zero-le, mul-one, zero-mul, mul_assoc, mul_comm, mul_right_comm, le_trans, le_of_eq, add-mul, mul-pos, mul-le-mul, mul-le-mul_right, le_of_mul-le-mul_right, le_of_lt, le_of_suc-le-suc, lt-suc_self, lt_of_le_of_lt, mul-lt-mul_of_pos_right, div-lt_iff_lt-mul, arith, lit≤, lit<, eqb→eq, ltb→lt, le-ltb, eq-eqb}
use Rattle.std.proofs.Math.Nat.{mul-mul-mul_comm}
use Rattle.std.specs.Float.{nan, inf, fin}
use Rattle.std.specs.Float.Ieee.{binary32, up, down, lt, le, eq, level, unlike, units, odd, round, sum, add, mul, to_unsigned}
use Rattle.std.specs.Float.Ieee.Fits.{down_pos, and_l, and_r, and_i, round_is}
use Rattle.std.specs.Float.Ieee.Exact.{HasValue, odd_sign}
use Rattle.std.specs.Float.Ieee.Scale.{finite}
use Rattle.std.specs.Float.Ieee.Order.{round_mono}
use Rattle.std.specs.Float.Ieee.Back.{round_whole}
use Rattle.floats.specs.Defs.{zero32, one}
use Rattle.floats.specs.Whole.{round_at_lem}
use Rattle.floats.specs.Unit.{in_unit, minus_zero, not_less}

-- finite, from 0 to n; -0 counts
abbrev pub Upto : ℕ → Float → Type 0
Upto n nan = ⊥
Upto n (inf s) = ⊥
Upto n (fin s m e) = (m * up e ≤ n * down e) × (s ≡ true → m * up e ≡ 0)

-- ---- `round` keeps the sign
abbrev Signed : Bool → Float → Type 0
Signed s nan = ⊥
Signed s (inf t) = t ≡ s
Signed s (fin t m e) = t ≡ s

signed_of : (x : Float) (s : Bool) (a c : ℕ) → HasValue x s a c → Signed s x
signed_of nan s a c v = v
signed_of (inf t) s a c v = absurd v
signed_of (fin t m e) s a c v = v.0

units_signed : (s : Bool) (q k : ℕ) → Signed s (units binary32 s q k)
unfolding units
units_signed s q k = go (nat_lt (q * 2 ^ k) (2 ^ (149 + 128)))
  where
    go : (b : Bool) → Signed s (cond b (odd 25 s q k 149) (inf s))
    go true = signed_of (odd 25 s q k 149) s (q * 2 ^ k) (2 ^ 149) (odd_sign 25 s q k 149)
    go false = refl

round_signed : (s : Bool) (a c : ℕ) → Signed s (round binary32 s a c)
round_signed s a c = subst (Signed s) (sym (round_is binary32 s a c)) (units_signed s _ _)

-- ---- what is at most n
or_le : (a b : ℕ) → T (nat_lt a b || level false a false b) → a ≤ b
or_le a b = go (nat_lt a b) (ltb→lt a b)
  where
    go : (p : Bool) → (T p → a < b) → T (p || level false a false b) → a ≤ b
    go true h t = le_of_lt (h tt)
    go false h t = le_of_eq (eqb→eq a b (and_l (a == b) true t))

true_false : {X : Type 0} → true ≡ false → X
true_false h = absurd (subst T h tt)

pub at_most : (x y : Float) (n : ℕ) → Signed false x → T (le x y) → HasValue y false n 1 → Upto n x
unfolding le lt eq
at_most nan y n s h v = absurd s
at_most (inf s) nan n q h v = absurd v
at_most (inf s) (inf t) n q h v = absurd v
at_most (inf true) (fin t b d) n q h v = true_false q
at_most (inf false) (fin t b d) n q h v = absurd h
at_most (fin true m e) y n q h v = true_false q
at_most (fin false m e) nan n q h v = absurd v
at_most (fin false m e) (inf t) n q h v = absurd v
at_most (fin false m e) (fin true b d) n q h v = true_false v.0
at_most (fin false m e) (fin false b d) n q h v =
    let k : m * up e * down d ≤ b * up d * down e = or_le (m * up e * down d) (b * up d * down e) h in
    (le_of_mul-le-mul_right (le_trans k (le_of_eq (ap (λ (z : ℕ). z * down e) (sym (mul-one (b * up d)) ∙ v.1) ∙ mul_right_comm n (down d) (down e)))) (down_pos d), λ p. true_false (sym p))

pub round_upto : (n a c : ℕ) → n ≤ 2 ^ 24 → 0 < c → a ≤ n * c → Upto n (round binary32 false a c)
round_upto n a c l p h =
    at_most (round binary32 false a c) (round binary32 false n 1) n (round_signed false a c) (round_mono binary32 a c n 1 p (lit< tt) (le_trans (le_of_eq (mul-one a)) h)) (round_whole binary32 false n l)

pub round_zero : (n a c : ℕ) → 0 < c → a ≡ 0 → Upto n (round binary32 true a c)
round_zero n a c p h = go (round binary32 true a c) (round_at_lem true a 0 c p (lit≤ tt) (h ∙ sym (zero-mul c)))
  where
    go : (x : Float) → HasValue x true 0 1 → Upto n x
    go nan v = v
    go (inf s) v = v
    go (fin s m e) v = let z : m * up e * 1 ≡ 0 * down e = v.1 in (le_trans (le_of_eq (the_zero z)) (lit_zero), λ q. the_zero z)
      where
        the_zero : m * up e * 1 ≡ 0 * down e → m * up e ≡ 0
        the_zero z = omega arith

        lit_zero : 0 ≤ n * down e
        lit_zero = omega arith

-- ---- sum and product
module _ (A B C n m : ℕ) (p : 0 < C) (l : n + m ≤ 2 ^ 24) (A_le : A ≤ n * C) (B_le : B ≤ m * C) where
  both : A + B ≤ (n + m) * C
  both = le_trans (omega arith) (le_of_eq (sym (add-mul n m C)))

  pick : (q : Bool) → Upto (n + m) (cond q (round binary32 false (B - A) C) (round binary32 false (A - B) C))
  pick true = round_upto (n + m) (B - A) C l p (let b = both in omega arith)
  pick false = round_upto (n + m) (A - B) C l p (let b = both in omega arith)

  sum_upto : (s t : Bool) → (s ≡ true → A ≡ 0) → (t ≡ true → B ≡ 0) → Upto (n + m) (sum binary32 s A t B C)
  unfolding sum
  sum_upto false false f g = round_upto (n + m) (A + B) C l p both
  sum_upto true true f g =
      let x : A ≡ 0 = f refl in
      let y : B ≡ 0 = g refl in
      round_zero (n + m) (A + B) C p (omega arith)
  sum_upto false true f g =
      let y : B ≡ 0 = g refl in
      subst (λ (q : Bool). Upto (n + m) (cond q (round binary32 true (B - A) C) (round binary32 false (A - B) C))) (sym (le-ltb A B (omega arith))) (pick false)
  sum_upto true false f g =
      let x : A ≡ 0 = f refl in
      subst (λ (q : Bool). Upto (n + m) (cond (nat_lt A B) (round binary32 false (B - A) C) (round binary32 q (A - B) C))) (sym (le-ltb B A (omega arith))) (pick (nat_lt A B))

nought : {z : ℕ} (u : ℕ) → z ≡ 0 → z * u ≡ 0
nought u h = ap (λ (k : ℕ). k * u) h ∙ zero-mul u

pub add_upto : (x y : Float) (n m : ℕ) → n + m ≤ 2 ^ 24 → Upto n x → Upto m y → Upto (n + m) (add binary32 x y)
unfolding add
add_upto nan y n m l v w = absurd v
add_upto (inf s) y n m l v w = absurd v
add_upto (fin s a e) nan n m l v w = absurd w
add_upto (fin s a e) (inf t) n m l v w = absurd w
add_upto (fin s a e) (fin t b d) n m l v w =
    sum_upto (a * up e * down d) (b * up d * down e) (down e * down d) n m (mul-pos (down_pos e) (down_pos d)) l
    (le_trans (mul-le-mul_right (down d) v.0) (le_of_eq (mul_assoc n (down e) (down d))))
    (le_trans (mul-le-mul_right (down e) w.0) (le_of_eq (mul_assoc m (down d) (down e) ∙ ap (λ (z : ℕ). m * z) (mul_comm (down d) (down e)))))
    s t (λ q. nought (down d) (v.1 q)) (λ q. nought (down e) (w.1 q))

prod_upto : (s t : Bool) (n a c : ℕ) → n ≤ 2 ^ 24 → 0 < c → a ≤ n * c → (s ≡ true → a ≡ 0) → (t ≡ true → a ≡ 0) → Upto n (round binary32 (unlike s t) a c)
prod_upto false false n a c l p h f g = round_upto n a c l p h
prod_upto true true n a c l p h f g = round_upto n a c l p h
prod_upto true false n a c l p h f g = round_zero n a c p (f refl)
prod_upto false true n a c l p h f g = round_zero n a c p (g refl)

pub mul_upto : (x y : Float) (n m : ℕ) → n * m ≤ 2 ^ 24 → Upto n x → Upto m y → Upto (n * m) (mul binary32 x y)
unfolding mul
mul_upto nan y n m l v w = absurd v
mul_upto (inf s) y n m l v w = absurd v
mul_upto (fin s a e) nan n m l v w = absurd w
mul_upto (fin s a e) (inf t) n m l v w = absurd w
mul_upto (fin s a e) (fin t b d) n m l v w =
    prod_upto s t (n * m) (a * up e * (b * up d)) (down e * down d) l (mul-pos (down_pos e) (down_pos d))
    (le_trans (mul-le-mul v.0 w.0) (le_of_eq (mul-mul-mul_comm n (down e) m (down d))))
    (λ q. nought (b * up d) (v.1 q)) (λ q. mul_comm (a * up e) (b * up d) ∙ nought (a * up e) (w.1 q))

-- ---- from the tests
pub from_tests : (x y : Float) (n : ℕ) → T (le zero32 x) → T (le x y) → HasValue y false n 1 → Upto n x
unfolding le lt eq
from_tests (fin true m e) y n h k v = let z : m * up e ≡ 0 = minus_zero m e h in (omega arith, λ q. z)
from_tests (fin false m e) y n h k v = at_most (fin false m e) y n refl k v
from_tests nan y n h k v = absurd h
from_tests (inf true) y n h k v = absurd h
from_tests (inf false) nan n h k v = absurd v
from_tests (inf false) (inf t) n h k v = absurd v
from_tests (inf false) (fin t b d) n h k v = absurd k

pub whole_upto : (x : Float) (n m : ℕ) → n ≤ m → HasValue x false n 1 → Upto m x
whole_upto nan n m l v = v
whole_upto (inf s) n m l v = v
whole_upto (fin s a e) n m l v = (le_trans (le_of_eq (sym (mul-one (a * up e)) ∙ v.1)) (mul-le-mul_right (down e) l), λ q. true_false (sym q ∙ v.0))

-- x in [0, 1)
pub unit_upto : (x : Float) → T (in_unit x) → Upto 1 x
unfolding le
unit_upto x h =
    from_tests x one 1 (and_l (le zero32 x) (lt x one) h) (or_l (lt x one) (eq x one) (and_r (le zero32 x) (lt x one) h)) (refl, refl)
  where
    or_l : (p q : Bool) → T p → T (p || q)
    or_l true q t = tt
    or_l false q t = elim t [ ]

-- ---- what follows
pub upto_finite : (x : Float) (n : ℕ) → Upto n x → T (finite x)
upto_finite (fin s m e) n u = tt
upto_finite nan n u = u
upto_finite (inf s) n u = u

pub upto_not_below : (x : Float) (n : ℕ) → Upto n x → T (le zero32 x)
unfolding le lt eq
upto_not_below nan n u = absurd u
upto_not_below (inf s) n u = absurd u
upto_not_below (fin false m e) n u = not_less m e
upto_not_below (fin true m e) n u =
    let z : m * up e ≡ 0 = u.1 refl in
    and_i (0 * 1 * down e == m * up e * 1) (0 * 1 * down e == 0) (subst T (sym (eq-eqb (0 * 1 * down e) (m * up e * 1) (omega arith))) tt) (subst T (sym (eq-eqb (0 * 1 * down e) 0 (omega arith))) tt)

-- Rust's `x as usize` is at most n
pub upto_unsigned : (x : Float) (n : ℕ) → Upto n x → to_unsigned 64 x ≤ n
unfolding to_unsigned
upto_unsigned nan n u = absurd u
upto_unsigned (inf s) n u = absurd u
upto_unsigned (fin true m e) n u = zero-le
upto_unsigned (fin false m e) n u =
    let q : m * up e / down e ≤ n = le_of_suc-le-suc ((div-lt_iff_lt-mul (down_pos e)).1 (lt_of_le_of_lt u.0 (mul-lt-mul_of_pos_right (lt-suc_self n) (down_pos e)))) in
    omega arith
