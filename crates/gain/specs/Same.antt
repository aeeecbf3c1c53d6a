-- Two floats of one format that compare equal and are no zeros are the same. Assumes nothing.
use Rattle.std.specs.Prelude.{◌≡◌, ℕ, zero, suc, ◌*◌, ◌%◌, ◌^◌, ◌<◌, Bool, true, false, not, ◌&&◌, ◌||◌, T, ℤ, pos, negsuc, ◌==◌, ◌≢◌, nat_le, nat_lt, refl, Float}
use Rattle.std.proofs.Common.{sym, ap, ◌∙◌, subst, mul-one, zero-mul, mul_assoc, mul_left_comm, mul-pos, zero-lt-suc, pow-suc, arith, eqb→eq, eq-eqb, ne_eqb}
use Rattle.std.specs.Bool.{beq}
use Rattle.std.proofs.Math.Nat.{eq_of_mul-eq-mul_right, pow-succ'}
use Rattle.std.specs.Float.{inf, fin, Format}
use Rattle.std.specs.Float.Ieee.{prec, emax, low, up, down, level, eq, fits}
use Rattle.std.specs.Float.Ieee.Fits.{up_pos, down_pos, and_l, and_r}
use Rattle.floats.specs.Defs.{zero32}

even_odd : (m t : ℕ) → m % 2 ≡ 1 → m ≢ 2 * t
even_odd m t o h = omega arith

odd_pow : (m n a b : ℕ) → m % 2 ≡ 1 → n % 2 ≡ 1 → m * 2 ^ a ≡ n * 2 ^ b → (m ≡ n) × (a ≡ b)
odd_pow m n zero zero o p h = (sym (mul-one m) ∙ h ∙ mul-one n, refl)
odd_pow m n zero (suc b) o p h = absurd (even_odd m (n * 2 ^ b) o (sym (mul-one m) ∙ h ∙ ap (λ (x : ℕ). n * x) (pow-succ' 2 b) ∙ mul_left_comm n 2 (2 ^ b)))
odd_pow m n (suc a) zero o p h = absurd (even_odd n (m * 2 ^ a) p (sym (mul-one n) ∙ sym h ∙ ap (λ (x : ℕ). m * x) (pow-succ' 2 a) ∙ mul_left_comm m 2 (2 ^ a)))
odd_pow m n (suc a) (suc b) o p h =
    let r = odd_pow m n a b o p (eq_of_mul-eq-mul_right 2 (zero-lt-suc 1) (m * 2 ^ a) (n * 2 ^ b)
    (mul_assoc m (2 ^ a) 2 ∙ ap (λ (x : ℕ). m * x) (sym (pow-suc 2 a)) ∙ h ∙ ap (λ (x : ℕ). n * x) (pow-suc 2 b) ∙ sym (mul_assoc n (2 ^ b) 2))) in
    (r.0, ap suc r.1)

-- an odd m times a power of two, in one way
pub cross : (m n : ℕ) (e d : ℤ) → m % 2 ≡ 1 → n % 2 ≡ 1 → m * up e * down d ≡ n * up d * down e → (m ≡ n) × (e ≡ d)
cross m n (pos a) (pos b) o p h = let r = odd_pow m n a b o p (sym (mul-one _) ∙ h ∙ mul-one _) in (r.0, ap pos r.1)
cross m n (pos a) (negsuc b) o p h =
    absurd (even_odd n (m * 2 ^ a * 2 ^ b) p (sym (mul-one n) ∙ sym (mul-one _) ∙ sym h ∙ ap (λ (x : ℕ). m * 2 ^ a * x) (pow-succ' 2 b) ∙ mul_left_comm (m * 2 ^ a) 2 (2 ^ b)))
cross m n (negsuc a) (pos b) o p h =
    absurd (even_odd m (n * 2 ^ b * 2 ^ a) o (sym (mul-one m) ∙ sym (mul-one _) ∙ h ∙ ap (λ (x : ℕ). n * 2 ^ b * x) (pow-succ' 2 a) ∙ mul_left_comm (n * 2 ^ b) 2 (2 ^ a)))
cross m n (negsuc a) (negsuc b) o p h =
    let r = odd_pow m n (suc b) (suc a) o p (ap (λ (x : ℕ). x * 2 ^ suc b) (sym (mul-one m)) ∙ h ∙ ap (λ (x : ℕ). x * 2 ^ suc a) (mul-one n)) in
    (r.0, ap negsuc (down_one r.1))
  where
    down_one : suc b ≡ suc a → a ≡ b
    down_one e = omega arith

pub is_odd : (f : Format) (s : Bool) (m : ℕ) (e : ℤ) → T (fits f (fin s (suc m) e)) → suc m % 2 ≡ 1
unfolding fits
is_odd f s m e t =
    eqb→eq (suc m % 2) 1 (and_l (suc m % 2 == 1) (nat_lt (suc m) (2 ^ prec f)) (and_l (suc m % 2 == 1 && nat_lt (suc m) (2 ^ prec f)) (nat_le (down e) (2 ^ low f))
    (and_l (suc m % 2 == 1 && nat_lt (suc m) (2 ^ prec f) && nat_le (down e) (2 ^ low f)) (nat_lt (suc m * up e) (2 ^ suc (emax f) * down e)) t)))

beq_is : (s t : Bool) → T (beq s t) → s ≡ t
beq_is true true h = refl
beq_is false false h = refl
beq_is false true h = elim h [ ]
beq_is true false h = elim h [ ]

or_l : (a b : Bool) → b ≡ false → T (a || b) → T a
or_l true b h t = tt
or_l false b h t = absurd (subst T h t)

pub size_pos : (m : ℕ) (e d : ℤ) → 0 < suc m * up e * down d
size_pos m e d = mul-pos (mul-pos (zero-lt-suc m) (up_pos e)) (down_pos d)

pub no_zero : (t : Bool) (a b : ℕ) → a ≡ b → a ≡ 0 → T (not (level t a false b)) → ⊥
no_zero false a b h z n = subst (λ (x : Bool). T (not (x && true))) (eq-eqb a b h) n
no_zero true a b h z n = subst (λ (x : Bool). T (not x)) (eq-eqb a 0 z) (subst (λ (x : Bool). T (not (x && a == 0))) (eq-eqb a b h) n)

pub same : (f : Format) (x y : Float) → T (fits f x) → T (fits f y) → T (eq x y) → T (not (eq y zero32)) → x ≡ y
unfolding eq
same f (inf s) (inf t) p q h n = ap inf (beq_is s t h)
same f (fin s m e) (fin t zero d) p q h n =
    absurd (no_zero t (zero * up d * 1) (0 * 1 * down d) (omega arith) (omega arith) n)
same f (fin s zero e) (fin t (suc n) d) p q h z =
    let a : zero * up e * down d ≡ suc n * up d * down e = eqb→eq _ _ (and_l (zero * up e * down d == suc n * up d * down e) (beq s t || zero * up e * down d == 0) h) in
    let b : 0 < suc n * up d * down e = size_pos n d e in
    let g : zero * up e * down d ≡ 0 = ap (λ (x : ℕ). x * down d) (zero-mul (up e)) ∙ zero-mul (down d) in
    absurd (omega arith)
same f (fin s (suc m) e) (fin t (suc n) d) p q h z =
    let a : suc m * up e * down d ≡ suc n * up d * down e = eqb→eq _ _ (and_l (suc m * up e * down d == suc n * up d * down e) (beq s t || suc m * up e * down d == 0) h) in
    let w : 0 < suc m * up e * down d = size_pos m e d in
    let r = cross (suc m) (suc n) e d (is_odd f s m e p) (is_odd f t n d q) a in
    let g : s ≡ t = beq_is s t (or_l (beq s t) (suc m * up e * down d == 0) (ne_eqb _ _ (λ (k : suc m * up e * down d ≡ 0). omega arith)) (and_r (suc m * up e * down d == suc n * up d * down e) (beq s t || suc m * up e * down d == 0) h)) in
    λ i. fin (g i) (r.0 i) (r.1 i)
same f lib.Ieee.nan y p q h n = elim h [ ]
same f (inf s) lib.Ieee.nan p q h n = elim h [ ]
same f (inf s) (fin t _ d) p q h n = elim h [ ]
same f (fin s m e) lib.Ieee.nan p q h n = elim h [ ]
same f (fin s m e) (inf t) p q h n = elim h [ ]
