-- Floats that are integers: sums, differences and products of up to 2^24 in size are exact. Assumes nothing.
use Rattle.std.proofs.Common.{◌≡◌, ℕ, zero, suc, ◌+◌, ◌-◌, ◌*◌, ◌^◌, ◌<◌, ◌≤◌, Bool, true, false, not, T, ltb, ℤ, pos, negsuc, ◌+ℤ◌, ◌-ℤ◌, nat_abs, sym, refl, ap, ◌∙◌, subst, le_refl, mul-le-mul_right, add-mul, mul-lt-mul_of_pos_right, one-mul, arith, ltb→lt, nltb→le, le-ltb, lt-ltb}
use lib.IntN.{sub_ℕ, +ℤ_idr}
use lib.Ieee.{Float, binary32, sum, add, sub, mul, neg, fits, of_int}
use lib.Ieee.Fits.{of_int-fits}
use lib.Ieee.Exact.{HasValue}
use lib.Ieee.Back.{round_whole, whole_unique}
use Rattle.floats.specs.Whole.{int_value, round_at_lem, sub_mul, mul_value, neg_has, common}

abbrev pub minus : ℤ → Bool
minus (pos n) = false
minus (negsuc n) = true

-- x has the value of z, and 0 is not negative
abbrev pub IsInt : Float → ℤ → Type 0
IsInt x z = HasValue x (minus z) (nat_abs z) 1

pub of_int_is : (z : ℤ) → nat_abs z ≤ 2 ^ 24 → IsInt (of_int binary32 z) z
unfolding of_int
of_int_is (pos n) l = int_value n l
of_int_is (negsuc n) l = round_whole binary32 true (suc n) l

pub int_unique : (x : Float) (z : ℤ) → T (fits binary32 x) → nat_abs z ≤ 2 ^ 24 → IsInt x z → x ≡ of_int binary32 z
int_unique x z f l v = whole_unique binary32 x (of_int binary32 z) (minus z) (nat_abs z) f (of_int-fits binary32 z) v (of_int_is z l)

-- ---- the sum of a and -b, written over a denominator c, in either order

-- of two naturals the first is less, or it isn't
by_order : {P : Type 0} (a b : ℕ) → (a < b → P) → (b ≤ a → P) → P
by_order {P} a b less more = go (ltb a b) (ltb→lt a b) (nltb→le a b) where
  go : (p : Bool) → (T p → a < b) → (T (not p) → b ≤ a) → P
  go true l m = less (l tt)
  go false l m = more (m tt)

module _ (a b c : ℕ) (h : 0 < c) (la : a ≤ 2 ^ 24) (lb : b ≤ 2 ^ 24) where
  less : a < b → IsInt (sum binary32 false (a * c) true (b * c) c) (sub_ℕ a b)
  unfolding sum
  less l =
      let t : ltb (a * c) (b * c) ≡ true = lt-ltb _ _ (mul-lt-mul_of_pos_right l h) in
      let u : ltb a b ≡ true = lt-ltb a b l in
      let e : suc (b - suc a) ≡ b - a = omega arith in
      rw (t, u, e) (round_at_lem true (b * c - a * c) (b - a) c h (omega arith) (sym (sub_mul b a c)))

  more : b ≤ a → IsInt (sum binary32 false (a * c) true (b * c) c) (sub_ℕ a b)
  unfolding sum
  more l =
      let t : ltb (a * c) (b * c) ≡ false = le-ltb _ _ (mul-le-mul_right c l) in
      let u : ltb a b ≡ false = le-ltb a b l in
      rw (t, u) (round_at_lem false (a * c - b * c) (a - b) c h (omega arith) (sym (sub_mul a b c)))

  pub difference : IsInt (sum binary32 false (a * c) true (b * c) c) (sub_ℕ a b)
  difference = by_order a b less more

-- the order doesn't matter
sum_swap : (A B c : ℕ) → sum binary32 true A false B c ≡ sum binary32 false B true A c
unfolding sum
sum_swap A B c = by_order A B first (λ (l : B ≤ A). by_order B A second (λ (m : A ≤ B). level (omega arith))) where
  first : A < B → sum binary32 true A false B c ≡ sum binary32 false B true A c
  first l =
      let t : ltb A B ≡ true = lt-ltb A B l in
      let u : ltb B A ≡ false = le-ltb B A (omega arith) in
      rw (t, u) refl

  second : B < A → sum binary32 true A false B c ≡ sum binary32 false B true A c
  second l =
      let t : ltb A B ≡ false = le-ltb A B (omega arith) in
      let u : ltb B A ≡ true = lt-ltb B A l in
      rw (t, u) refl

  level : A ≡ B → sum binary32 true A false B c ≡ sum binary32 false B true A c
  level e =
      let t : ltb B B ≡ false = le-ltb B B (le_refl B) in
      rw (e, t) refl

-- ---- sums and differences of integers

sum_int : (m n : ℤ) (c : ℕ) → 0 < c → nat_abs m + nat_abs n ≤ 2 ^ 24
    → IsInt (sum binary32 (minus m) (nat_abs m * c) (minus n) (nat_abs n * c) c) (m +ℤ n)
unfolding sum
sum_int (pos a) (pos b) c h l = round_at_lem false (a * c + b * c) (a + b) c h l (sym (add-mul a b c))
sum_int (pos a) (negsuc b) c h l = difference a (suc b) c h (omega arith) (omega arith)
sum_int (negsuc a) (pos b) c h l =
    subst (λ (x : Float). IsInt x (sub_ℕ b (suc a))) (sym (sum_swap (suc a * c) (b * c) c))
    (difference b (suc a) c h (omega arith) (omega arith))
sum_int (negsuc a) (negsuc b) c h l = round_at_lem true (suc a * c + suc b * c) (suc (suc (a + b))) c h (omega arith) (omega arith)

pub add_int : (x y : Float) (m n : ℤ) → IsInt x m → IsInt y n → nat_abs m + nat_abs n ≤ 2 ^ 24 → IsInt (add binary32 x y) (m +ℤ n)
add_int x y m n v w l =
    let k = common x y (minus m) (minus n) (nat_abs m) (nat_abs n) v w in
    subst (λ (z : Float). IsInt z (m +ℤ n)) (sym k.1.1) (sum_int m n k.0 k.1.0 l)

-- Taking away 0 is adding -0, which is no integer here.
sum_zero : (m : ℤ) (c : ℕ) → 0 < c → nat_abs m ≤ 2 ^ 24 → IsInt (sum binary32 (minus m) (nat_abs m * c) true (0 * c) c) (m +ℤ pos 0)
unfolding sum
sum_zero (pos a) c h l =
    let t : sub_ℕ a 0 ≡ pos (a + 0) = let u : ltb a 0 ≡ false = le-ltb a 0 (omega arith) in rw u (ap pos (omega arith)) in
    subst (IsInt (sum binary32 false (a * c) true (0 * c) c)) t (difference a 0 c h l (omega arith))
sum_zero (negsuc a) c h l =
    subst (IsInt (sum binary32 true (suc a * c) true (0 * c) c)) (sym (+ℤ_idr (negsuc a)))
    (round_at_lem true (suc a * c + 0 * c) (suc a) c h l (omega arith))

pub sub_int : (x y : Float) (m n : ℤ) → IsInt x m → IsInt y n → nat_abs m + nat_abs n ≤ 2 ^ 24 → IsInt (sub binary32 x y) (m -ℤ n)
unfolding sub
sub_int x y m (pos zero) v w l =
    let k = common x (neg y) (minus m) true (nat_abs m) 0 v (neg_has y false 0 w) in
    subst (λ (z : Float). IsInt z (m +ℤ pos 0)) (sym k.1.1) (sum_zero m k.0 k.1.0 (omega arith))
sub_int x y m (pos (suc b)) v w l = add_int x (neg y) m (negsuc b) v (neg_has y false (suc b) w) l
sub_int x y m (negsuc b) v w l = add_int x (neg y) m (pos (suc b)) v (neg_has y true (suc b) w) l

-- ---- the size of a sum and of a difference

size_unlike : (a b : ℕ) → nat_abs (sub_ℕ a b) ≤ a + b
size_unlike a b = by_order a b less more where
  less : a < b → nat_abs (sub_ℕ a b) ≤ a + b
  less l = let u : ltb a b ≡ true = lt-ltb a b l in rw u (omega arith)

  more : b ≤ a → nat_abs (sub_ℕ a b) ≤ a + b
  more l = let u : ltb a b ≡ false = le-ltb a b l in rw u (omega arith)

pub size_add : (m n : ℤ) → nat_abs (m +ℤ n) ≤ nat_abs m + nat_abs n
size_add (pos a) (pos b) = le_refl (a + b)
size_add (pos a) (negsuc b) = size_unlike a (suc b)
size_add (negsuc a) (pos b) = let l = size_unlike b (suc a) in omega (arith, l)
size_add (negsuc a) (negsuc b) = omega arith

pub size_sub : (m n : ℤ) → nat_abs (m -ℤ n) ≤ nat_abs m + nat_abs n
size_sub m (pos zero) = size_add m (pos 0)
size_sub m (pos (suc b)) = size_add m (negsuc b)
size_sub m (negsuc b) = size_add m (pos (suc b))

-- ---- a multiple

-- (k + 1) z: k more of z are added to it
abbrev pub multiple : ℕ → ℤ → ℤ
multiple zero z = z
multiple (suc k) z = multiple k z +ℤ z

positive : (k n : ℕ) → multiple k (pos n) ≡ pos (suc k * n)
positive zero n = ap pos (sym (one-mul n))
positive (suc k) n = ap (λ (z : ℤ). z +ℤ pos n) (positive k n) ∙ ap pos (omega arith)

negative : (k n : ℕ) → multiple k (negsuc n) ≡ negsuc (k + suc k * n)
negative zero n = ap negsuc (omega arith)
negative (suc k) n = ap (λ (z : ℤ). z +ℤ negsuc n) (negative k n) ∙ ap negsuc (omega arith)

pub size_multiple : (k : ℕ) (z : ℤ) → nat_abs (multiple k z) ≡ suc k * nat_abs z
size_multiple k (pos n) = ap nat_abs (positive k n)
size_multiple k (negsuc n) = ap nat_abs (negative k n) ∙ omega arith

pub times_int : (k : ℕ) (u x : Float) (z : ℤ) → HasValue u false (suc k) 1 → IsInt x z → suc k * nat_abs z ≤ 2 ^ 24
    → IsInt (mul binary32 u x) (multiple k z)
times_int k u x (pos n) v w l =
    subst (IsInt (mul binary32 u x)) (sym (positive k n)) (mul_value u x false false (suc k) n l v w)
times_int k u x (negsuc n) v w l =
    let e : suc k * suc n ≡ suc (k + suc k * n) = omega arith in
    subst (IsInt (mul binary32 u x)) (sym (negative k n))
    (subst (λ (j : ℕ). HasValue (mul binary32 u x) true j 1) e (mul_value u x false true (suc k) (suc n) l v w))
