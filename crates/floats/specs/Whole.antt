-- Sums, differences and products of whole floats up to 2^24 in size are exact; x - x is 0. Assumes nothing.
use Rattle.std.specs.Prelude.{◌≡◌, ℕ, zero, suc, ◌+◌, ◌-◌, ◌*◌, ◌^◌, ◌<◌, ◌≤◌, Bool, true, false, cond, not, ◌&&◌, T, pos, nat_lt, refl, Float}
use Rattle.std.proofs.Common.{sym, ap, ◌∙◌, subst, mul-one, mul_comm, mul_assoc, mul_left_comm, add-mul, mul-pos, zero-lt-suc, le_trans, mul-le-mul, le_refl, zero-mul, arith, lit≤, lit<, le-ltb, lt-ltb}
use Rattle.std.proofs.Math.Nat.{mul-sub, sub_self}
use Rattle.std.specs.Float.{nan, inf, fin, binary32}
use Rattle.std.specs.Float.Ieee.{up, down, unlike, round, sum, add, sub, mul, neg, of_int, fits}
use Rattle.std.specs.Float.Ieee.Fits.{down_pos, add-fits}
use Rattle.std.specs.Float.Ieee.Exact.{HasValue}
use Rattle.std.specs.Float.Ieee.Scale.{finite, round_same}
use Rattle.std.specs.Float.Ieee.Back.{round_whole, whole_unique}
use Rattle.floats.specs.Defs.{zero32}

-- k * c / c rounds to k
pub round_at_lem : (s : Bool) (n k c : ℕ) → 0 < c → k ≤ 2 ^ 24 → n ≡ k * c → HasValue (round binary32 s n c) s k 1
round_at_lem s n k c p l h =
    subst (λ (x : Float). HasValue x s k 1) (sym (round_same binary32 s n c k 1 p (lit< tt) (mul-one n ∙ h))) (round_whole binary32 s k l)

-- a whole number as a float
pub int_value : (n : ℕ) → n ≤ 2 ^ 24 → HasValue (of_int binary32 (pos n)) false n 1
unfolding of_int
int_value n h = round_whole binary32 false n h

pub sub_mul : (b a c : ℕ) → (b - a) * c ≡ b * c - a * c
sub_mul b a c = mul_comm (b - a) c ∙ mul-sub c b a ∙ ap (λ (z : ℕ). z - c * a) (mul_comm c b) ∙ ap (λ (z : ℕ). b * c - z) (mul_comm c a)

-- ---- the product
pub mul_value : (x y : Float) (s t : Bool) (a b : ℕ) → a * b ≤ 2 ^ 24 → HasValue x s a 1 → HasValue y t b 1 → HasValue (mul binary32 x y) (unlike s t) (a * b) 1
unfolding mul
mul_value nan y s t a b l v w = absurd v
mul_value (inf q) y s t a b l v w = absurd v
mul_value (fin s' m e) nan s t a b l v w = absurd w
mul_value (fin s' m e) (inf q) s t a b l v w = absurd w
mul_value (fin s' m e) (fin t' n d) s t a b l v w =
    subst (λ (z : Bool). HasValue (round binary32 z (m * up e * (n * up d)) (down e * down d)) (unlike s t) (a * b) 1)
    (sym (ap (λ (z : Bool). unlike z t') v.0 ∙ ap (unlike s) w.0))
    (round_at_lem (unlike s t) (m * up e * (n * up d)) (a * b) (down e * down d) (mul-pos (down_pos e) (down_pos d)) l
    (ap (λ (z : ℕ). z * (n * up d)) (sym (mul-one (m * up e)) ∙ v.1) ∙ ap (λ (z : ℕ). a * down e * z) (sym (mul-one (n * up d)) ∙ w.1)
    ∙ simp (mul_assoc, mul_left_comm)))

-- ---- the sum
-- finite, and a whole number up to n in size
pub record Small (n : ℕ) (x : Float) : Type 0 where
  pub sign : Bool
  pub size : ℕ
  pub value : HasValue x sign size 1
  pub bound : size ≤ n

abbrev Sum : Bool → Bool → ℕ → ℕ → ℕ → Float
Sum s t a b c = sum binary32 s (a * c) t (b * c) c

differ : (u t : Bool) (p : Bool) (a b c : ℕ) → 0 < c → a + b ≤ 2 ^ 24 → Small (a + b) (cond p (round binary32 t (b * c - a * c) c) (round binary32 u (a * c - b * c) c))
differ u t true a b c h l = record { sign = t; size = b - a; value = round_at_lem t (b * c - a * c) (b - a) c h (omega arith) (sym (sub_mul b a c)); bound = omega arith }
differ u t false a b c h l = record { sign = u; size = a - b; value = round_at_lem u (a * c - b * c) (a - b) c h (omega arith) (sym (sub_mul a b c)); bound = omega arith }

sum_small : (s t : Bool) (a b c : ℕ) → 0 < c → a + b ≤ 2 ^ 24 → Small (a + b) (Sum s t a b c)
unfolding sum
sum_small true true a b c h l = record { sign = true; size = a + b; value = round_at_lem true (a * c + b * c) (a + b) c h l (sym (add-mul a b c)); bound = le_refl _ }
sum_small false false a b c h l = record { sign = false; size = a + b; value = round_at_lem false (a * c + b * c) (a + b) c h l (sym (add-mul a b c)); bound = le_refl _ }
sum_small true false a b c h l = differ (true && nat_lt (b * c) (a * c)) false (nat_lt (a * c) (b * c)) a b c h l
sum_small false true a b c h l = differ (false && nat_lt (b * c) (a * c)) true (nat_lt (a * c) (b * c)) a b c h l

-- the sum of two values, over one denominator
pub common : (x y : Float) (s t : Bool) (a b : ℕ) → HasValue x s a 1 → HasValue y t b 1 → (c : ℕ) × ((0 < c) × (add binary32 x y ≡ Sum s t a b c))
unfolding add
common nan y s t a b v w = absurd v
common (inf q) y s t a b v w = absurd v
common (fin s' m e) nan s t a b v w = absurd w
common (fin s' m e) (inf q) s t a b v w = absurd w
common (fin s' m e) (fin t' n d) s t a b v w =
    let A : m * up e * down d ≡ a * (down e * down d) = ap (λ (z : ℕ). z * down d) (sym (mul-one (m * up e)) ∙ v.1) ∙ mul_assoc a (down e) (down d) in
    let B : n * up d * down e ≡ b * (down e * down d) = ap (λ (z : ℕ). z * down e) (sym (mul-one (n * up d)) ∙ w.1) ∙ mul_assoc b (down d) (down e) ∙ ap (λ (z : ℕ). b * z) (mul_comm (down d) (down e)) in
    let c = down e * down d in (
      c,
      (
        mul-pos (down_pos e) (down_pos d),
        (λ i. sum binary32 (v.0 i) (A i) (w.0 i) (B i) c),
      ),
    )

module _ {x y : Float} (n m : ℕ) (v : Small n x) (w : Small m y) where
  pub add_small : n + m ≤ 2 ^ 24 → Small (n + m) (add binary32 x y)
  add_small l =
      let k = common x y v.sign w.sign v.size w.size v.value w.value in
      let r : Small (v.size + w.size) (Sum v.sign w.sign v.size w.size k.0) = sum_small v.sign w.sign v.size w.size k.0 k.1.0 (omega arith) in
      record {
        sign = r.sign;
        size = r.size;
        value = subst (λ (z : Float). HasValue z r.sign r.size 1) (sym k.1.1) r.value;
        bound = omega arith;
      }

  pub mul_small : n * m ≤ 2 ^ 24 → Small (n * m) (mul binary32 x y)
  mul_small l =
      let h : v.size * w.size ≤ n * m = mul-le-mul v.bound w.bound in
      record {
        sign = unlike v.sign w.sign;
        size = v.size * w.size;
        value = mul_value x y v.sign w.sign v.size w.size (le_trans h l) v.value w.value;
        bound = h;
      }

pub neg_has : (x : Float) (s : Bool) (a : ℕ) → HasValue x s a 1 → HasValue (neg x) (not s) a 1
unfolding neg
neg_has nan s a v = v
neg_has (inf q) s a v = v
neg_has (fin t m e) s a v = (ap not v.0, v.1)

pub neg_small : {x : Float} (n : ℕ) → Small n x → Small n (neg x)
neg_small {x} n v = record { sign = not v.sign; size = v.size; value = neg_has x v.sign v.size v.value; bound = v.bound }

pub sub_small : {x y : Float} (n m : ℕ) → Small n x → Small m y → n + m ≤ 2 ^ 24 → Small (n + m) (sub binary32 x y)
unfolding sub
sub_small n m v w l = add_small n m v (neg_small m w) l

-- ---- adding a zero, of either sign, to a whole number that is not -0
plus_zero : (s t : Bool) (a c : ℕ) → 0 < c → a ≤ 2 ^ 24 → (a ≡ 0 → s ≡ false) → HasValue (Sum s t a 0 c) s a 1
unfolding sum
plus_zero true true a c h l z = round_at_lem true (a * c + 0 * c) a c h l (omega arith)
plus_zero false false a c h l z = round_at_lem false (a * c + 0 * c) a c h l (omega arith)
plus_zero false true a c h l z =
    subst (λ (p : Bool). HasValue (cond p (round binary32 true (0 * c - a * c) c) (round binary32 false (a * c - 0 * c) c)) false a 1)
    (sym (le-ltb (a * c) (0 * c) (omega arith))) (round_at_lem false (a * c - 0 * c) a c h l (omega arith))
plus_zero true false zero c h l z = absurd (subst T (z refl) tt)
plus_zero true false (suc a) c h l z =
    let q : 0 < suc a * c = mul-pos (zero-lt-suc a) h in
    subst (λ (p : Bool). HasValue (cond p (round binary32 false (0 * c - suc a * c) c) (round binary32 (nat_lt (0 * c) (suc a * c)) (suc a * c - 0 * c) c)) true (suc a) 1)
    (sym (le-ltb (suc a * c) (0 * c) (omega arith)))
    (subst (λ (p : Bool). HasValue (round binary32 p (suc a * c - 0 * c) c) true (suc a) 1) (sym (lt-ltb (0 * c) (suc a * c) (omega arith)))
    (round_at_lem true (suc a * c - 0 * c) (suc a) c h l (omega arith)))

pub add_zero_right : (x z : Float) (s t : Bool) (a : ℕ) → a ≤ 2 ^ 24 → T (fits binary32 x) → HasValue x s a 1 → HasValue z t 0 1 → (a ≡ 0 → s ≡ false) → add binary32 x z ≡ x
add_zero_right x z s t a l f v w n =
    let k = common x z s t a 0 v w in
    whole_unique binary32 (add binary32 x z) x s a (add-fits binary32 x z) f
    (subst (λ (y : Float). HasValue y s a 1) (sym k.1.1) (plus_zero s t a k.0 k.1.0 l n)) v

pub has_finite : (x : Float) (s : Bool) (a c : ℕ) → HasValue x s a c → T (finite x)
has_finite (fin t m e) s a c v = tt
has_finite nan s a c v = v
has_finite (inf t) s a c v = v

-- ---- x - x
none : (u : Bool) (A c : ℕ) → 0 < c → HasValue (cond (nat_lt A A) (round binary32 u (A - A) c) (round binary32 false (A - A) c)) false 0 1
none u A c h =
    subst (λ (p : Bool). HasValue (cond p (round binary32 u (A - A) c) (round binary32 false (A - A) c)) false 0 1)
    (sym (le-ltb A A (le_refl A))) (round_at_lem false (A - A) 0 c h (lit≤ tt) (sub_self A ∙ sym (zero-mul c)))

none_neg : (A c : ℕ) → 0 < c → HasValue (cond (nat_lt A A) (round binary32 false (A - A) c) (round binary32 (nat_lt A A) (A - A) c)) false 0 1
none_neg A c h =
    subst (λ (p : Bool). HasValue (cond (nat_lt A A) (round binary32 false (A - A) c) (round binary32 p (A - A) c)) false 0 1)
    (sym (le-ltb A A (le_refl A))) (none false A c h)

pub sub_same : (x : Float) → T (finite x) → sub binary32 x x ≡ zero32
unfolding sub add neg sum fits
sub_same (fin s m e) f =
    whole_unique binary32 (add binary32 (fin s m e) (fin (not s) m e)) zero32 false 0 (add-fits binary32 (fin s m e) (fin (not s) m e)) tt (go s) (refl, refl)
  where
    go : (s : Bool) → HasValue (add binary32 (fin s m e) (fin (not s) m e)) false 0 1
    go true = none_neg (m * up e * down e) (down e * down e) (mul-pos (down_pos e) (down_pos e))
    go false = none true (m * up e * down e) (down e * down e) (mul-pos (down_pos e) (down_pos e))
sub_same nan f = elim f [ ]
sub_same (inf _) f = elim f [ ]
