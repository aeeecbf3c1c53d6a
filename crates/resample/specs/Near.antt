-- Where a float lies between two whole numbers, its whole part is the lower one. Assumes nothing.
use Rattle.std.specs.Prelude.{◌≡◌, ℕ, zero, suc, ◌+◌, ◌*◌, ◌/◌, ◌^◌, ◌<◌, ◌≤◌, Bool, true, false, cond, ◌&&◌, ◌||◌, T, ℤ, ◌==◌, ◌≢◌, nat_lt, refl, Float}
use Rattle.std.proofs.Common.{sym, ap, ◌∙◌, subst, mul-one, mul_right_comm, mul-pos, zero-lt-suc, le_of_mul-le-mul_right, lt_of_mul-lt-mul_right, lt_of_not-le, le_of_lt, le_of_eq, le-div_iff_mul-le, div-lt_iff_lt-mul, arith, eqb→eq, ltb→lt, ltb-true, ltb-false, le-ltb, lt-ltb, eq-eqb}
use Rattle.std.specs.Float.{nan, inf, fin, binary32}
use Rattle.std.specs.Float.Ieee.{up, down, lt, le, eq, level, is_nan, sum, add, to_unsigned}
use Rattle.std.specs.Float.Ieee.Fits.{down_pos, and_l, and_r}
use Rattle.std.specs.Float.Ieee.Exact.{HasValue}
use Rattle.floats.specs.Defs.{one, min_of}
use Rattle.floats.specs.Whole.{common, round_at_lem}

-- ---- the whole numbers that are compared with

pub next_value : (x : Float) (n : ℕ) → n < 2 ^ 24 → HasValue x false n 1 → HasValue (add binary32 x one) false (n + 1) 1
unfolding sum
next_value x n l v =
    let c = common x one false false n 1 v (refl, refl) in
    subst (λ (y : Float). HasValue y false (n + 1) 1) (sym c.1.1) (both c.0 c.1.0)
  where
    both : (c : ℕ) → 0 < c → HasValue (sum binary32 false (n * c) false (1 * c) c) false (n + 1) 1
    both c h = round_at_lem false (n * c + 1 * c) (n + 1) c h (omega arith) (omega arith)

-- ---- a float from n up to below n + 1

-- from n up; -0 counts as 0
abbrev From : ℕ → Float → Type 0
From n nan = ⊥
From n (inf s) = s ≡ false
From n (fin s m e) = (n * down e ≤ m * up e) × (s ≡ true → n ≡ 0)

abbrev Below : ℕ → Float → Type 0
Below n nan = ⊥
Below n (inf s) = s ≡ true
Below n (fin s m e) = s ≡ false → m * up e < n * down e

no : {A : Type 0} → true ≡ false → A
no h = absurd (subst T h tt)

or_le : (a b : ℕ) → nat_lt a b || level false a false b ≡ true → a ≤ b
or_le a b = go (nat_lt a b) (ltb→lt a b)
  where
    go : (p : Bool) → (T p → a < b) → p || level false a false b ≡ true → a ≤ b
    go true h t = le_of_lt (h tt)
    go false h t = le_of_eq (eqb→eq a b (and_l (a == b) true (subst T (sym t) tt)))

-- a value over the other's denominator
over : (b : ℕ) (d : ℤ) (n c : ℕ) → b * up d * 1 ≡ n * down d → b * up d * c ≡ n * c * down d
over b d n c v = ap (λ (z : ℕ). z * c) (sym (mul-one (b * up d)) ∙ v) ∙ mul_right_comm n (down d) c

-- nothing over a denominator is nothing
nothing : (n c d : ℕ) → 0 < c → 0 < d → n * c * d ≡ 0 → n ≡ 0
nothing zero c d p q h = refl
nothing (suc n) c d p q h = let r : 0 < suc n * c * d = mul-pos (mul-pos (zero-lt-suc n) p) q in absurd (omega arith)

none : (n : ℕ) (e : ℤ) (m : ℕ) → n ≡ 0 → (n * down e ≤ m * up e) × (true ≡ true → n ≡ 0)
none n e m z = (subst (λ (k : ℕ). k * down e ≤ m * up e) (sym z) (omega arith), λ q. z)

pub from_le : (lo x : Float) (n : ℕ) → HasValue lo false n 1 → le lo x ≡ true → From n x
unfolding le lt eq
from_le nan x n v h = absurd v
from_le (inf t) x n v h = absurd v
from_le (fin true b d) x n v h = no v.0
from_le (fin false b d) nan n v h = no (sym h)
from_le (fin false b d) (inf true) n v h = no (sym h)
from_le (fin false b d) (inf false) n v h = refl
from_le (fin false b d) (fin true m e) n v h =
    let z : b * up d * down e ≡ 0 = eqb→eq (b * up d * down e) 0 (and_r (b * up d * down e == m * up e * down d) _ (subst T (sym h) tt)) in
    none n e m (nothing n (down e) (down d) (down_pos e) (down_pos d) (sym (over b d n (down e) v.1) ∙ z))
from_le (fin false b d) (fin false m e) n v h =
    (le_of_mul-le-mul_right (subst (λ (k : ℕ). k ≤ m * up e * down d) (over b d n (down e) v.1) (or_le (b * up d * down e) (m * up e * down d) h)) (down_pos d), λ q. no (sym q))

-- no NaN, and not below n
pub from_not_lt : (hi x : Float) (j n : ℕ) → HasValue hi false n 1 → From j x → lt x hi ≡ false → From n x
unfolding lt
from_not_lt nan x j n v f h = absurd v
from_not_lt (inf t) x j n v f h = absurd v
from_not_lt (fin true b d) x j n v f h = no v.0
from_not_lt (fin false b d) nan j n v f h = absurd f
from_not_lt (fin false b d) (inf s) j n v f h = h
from_not_lt (fin false b d) (fin true m e) j n v f h =
    let z : m * up e * down d + b * up d * down e ≤ 0 = ltb-false 0 (m * up e * down d + b * up d * down e) h in
    let y : b * up d * down e ≡ 0 = omega arith in
    none n e m (nothing n (down e) (down d) (down_pos e) (down_pos d) (sym (over b d n (down e) v.1) ∙ y))
from_not_lt (fin false b d) (fin false m e) j n v f h =
    (le_of_mul-le-mul_right (subst (λ (k : ℕ). k ≤ m * up e * down d) (over b d n (down e) v.1) (ltb-false (m * up e * down d) (b * up d * down e) h)) (down_pos d), λ q. no (sym q))

pub below_lt : (hi x : Float) (n : ℕ) → HasValue hi false n 1 → lt x hi ≡ true → Below n x
unfolding lt
below_lt nan x n v h = absurd v
below_lt (inf t) x n v h = absurd v
below_lt (fin true b d) x n v h = no v.0
below_lt (fin false b d) nan n v h = no (sym h)
below_lt (fin false b d) (inf s) n v h = h
below_lt (fin false b d) (fin true m e) n v h = λ q. no q
below_lt (fin false b d) (fin false m e) n v h =
    λ q. lt_of_mul-lt-mul_right (down d) (subst (λ (k : ℕ). m * up e * down d < k) (over b d n (down e) v.1) (ltb-true (m * up e * down d) (b * up d * down e) h))

pub whole_is : (x : Float) (n : ℕ) → n < 2 ^ 24 → From n x → Below (n + 1) x → n ≡ to_unsigned 64 x
unfolding to_unsigned
whole_is nan n l f b = absurd f
whole_is (inf s) n l f b = no (sym b ∙ f)
whole_is (fin true m e) n l f b = f.1 refl
whole_is (fin false m e) n l f b =
    let p : n ≤ m * up e / down e = (le-div_iff_mul-le (down_pos e)).1 f.0 in
    let q : m * up e / down e < n + 1 = (div-lt_iff_lt-mul (down_pos e)).1 (b refl) in
    omega arith

-- ---- Rust's `x.min(1.0)` by one test

pub min_stays : (x : Float) → le x one ≡ true → x ≡ min_of x one
unfolding le lt eq min_of is_nan
min_stays nan h = no (sym h)
min_stays (inf true) h = refl
min_stays (inf false) h = no (sym h)
min_stays (fin true m e) h = refl
min_stays (fin false m e) h = sym (ap (λ (b : Bool). cond b one (fin false m e)) (le-ltb (1 * down e) (m * up e * 1) (or_le (m * up e * 1) (1 * down e) h)))

or_false : (a b : Bool) → a || b ≡ false → (a ≡ false) × (b ≡ false)
or_false false b h = (refl, h)
or_false true b h = no h

above : (a b : ℕ) → b ≤ a → (a ≢ b) → b < a
above a b p q = lt_of_not-le (λ (h : a ≤ b). q (omega arith))

pub min_one : (x : Float) → le x one ≡ false → one ≡ min_of x one
unfolding le lt eq min_of is_nan
min_one nan h = refl
min_one (inf true) h = no h
min_one (inf false) h = refl
min_one (fin true m e) h =
    let p : 0 < down e = down_pos e in
    let z : m * up e * 1 + 1 * down e ≤ 0 = ltb-false 0 (m * up e * 1 + 1 * down e) (or_false (nat_lt 0 (m * up e * 1 + 1 * down e)) _ h).0 in
    absurd (omega arith)
min_one (fin false m e) h =
    let A = m * up e * 1 in
    let B = 1 * down e in
    let p : B ≤ A = ltb-false A B (or_false (nat_lt A B) _ h).0 in
    let q : A ≡ B → ⊥ = λ z. no (sym (ap (λ (b : Bool). b && true) (eq-eqb A B z)) ∙ (or_false (nat_lt A B) _ h).1) in
    sym (ap (λ (b : Bool). cond b one (fin false m e)) (lt-ltb B A (above A B p q)))
