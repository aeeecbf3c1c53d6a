-- What a clamp gives lies in its range: a frame in [-1, 1] or a NaN, a ratio in [0, 16]. Assumes nothing.
use Rattle.std.specs.Prelude.{◌≡◌, ℕ, ◌+◌, ◌*◌, ◌≤◌, Bool, true, false, cond, not, ◌&&◌, ◌||◌, T, ◌==◌, nat_lt, refl, Float}
use Rattle.std.proofs.Common.{sym, subst, le_refl, arith, le-ltb, ltb-false, eq-eqb}
use Rattle.std.specs.Float.{nan, inf, fin}
use Rattle.std.specs.Float.Ieee.{up, down, lt, le, eq, below, level, is_nan}
use Rattle.std.specs.Float.Ieee.Fits.{and_i, and_l, and_r}
use Rattle.std.specs.Float.Ieee.Scale.{finite}
use Rattle.floats.specs.Defs.{clamp_of, ratio_of, zero32, one, minus_one, sixteen}
use Rattle.floats.specs.Unit.{or_i}

is_eqb : (a b : ℕ) → a ≡ b → T (a == b)
is_eqb a b h = subst T (sym (eq-eqb a b h)) tt

turned : (s t : Bool) (a b : ℕ) → below s a t b ≡ false → T (below t b s a || level t b s a)
turned false false a b h = let k : b ≤ a = ltb-false a b h in or_i (nat_lt b a) (level false b false a) (λ g. let q : a ≤ b = ltb-false b a g in and_i (b == a) true (is_eqb b a (omega arith)) tt)
turned true true a b h = let k : a ≤ b = ltb-false b a h in or_i (nat_lt a b) (level true b true a) (λ g. let q : b ≤ a = ltb-false a b g in and_i (b == a) true (is_eqb b a (omega arith)) tt)
turned false true a b h = or_i (nat_lt 0 (b + a)) (level true b false a) (λ g. let q : b + a ≤ 0 = ltb-false 0 (b + a) g in and_i (b == a) (b == 0) (is_eqb b a (omega arith)) (is_eqb b 0 (omega arith)))
turned true false a b h = let q : a + b ≤ 0 = ltb-false 0 (a + b) h in and_i (b == a) (b == 0) (is_eqb b a (omega arith)) (is_eqb b 0 (omega arith))

pub not_lt : (x y : Float) → T (not (is_nan x)) → T (finite y) → lt x y ≡ false → T (le y x)
unfolding is_nan le lt eq
not_lt (inf true) (fin t n d) p q h = absurd (subst T h tt)
not_lt (inf false) (fin t n d) p q h = tt
not_lt (fin s m e) (fin t n d) p q h = turned s t (m * up e * down d) (n * up d * down e) h
not_lt nan y p q h = elim p [ ]
not_lt (inf false) nan p q h = elim q [ ]
not_lt (inf false) (inf _) p q h = elim q [ ]
not_lt (inf true) nan p q h = elim q [ ]
not_lt (inf true) (inf _) p q h = elim q [ ]
not_lt (fin s m e) nan p q h = elim q [ ]
not_lt (fin s m e) (inf _) p q h = elim q [ ]

pub not_gt : (x y : Float) → T (finite x) → T (not (is_nan y)) → lt x y ≡ false → T (le y x)
unfolding is_nan le lt eq
not_gt (fin s m e) (inf true) p q h = tt
not_gt (fin s m e) (inf false) p q h = absurd (subst T h tt)
not_gt (fin s m e) (fin t n d) p q h = turned s t (m * up e * down d) (n * up d * down e) h
not_gt nan y p q h = elim p [ ]
not_gt (inf _) y p q h = elim p [ ]
not_gt (fin s m e) nan p q h = elim q [ ]

pub le_self : (x : Float) → T (finite x) → T (le x x)
unfolding lt is_nan
le_self (fin s m e) f = not_lt (fin s m e) (fin s m e) tt tt (go s (m * up e * down e))
  where
    go : (s : Bool) (a : ℕ) → below s a s a ≡ false
    go true a = le-ltb a a (le_refl a)
    go false a = le-ltb a a (le_refl a)
le_self nan f = elim f [ ]
le_self (inf _) f = elim f [ ]

-- ---- what a clamp gives
-- a clamp between two finite bounds lies between them, or is a NaN
pub clamp_in : (low high x : Float) → T (finite low) → T (finite high) → T (le low high)
    → T (is_nan (clamp_of low high x) || (le low (clamp_of low high x) && le (clamp_of low high x) high))
unfolding clamp_of
clamp_in low high x f g o = go (lt x low) (lt high x) refl refl
  where
    In : Float → Type 0
    In y = T (is_nan y || (le low y && le y high))

    inside : (y : Float) → T (le low y) → T (le y high) → In y
    inside y a b = or_i (is_nan y) _ (λ h. and_i (le low y) (le y high) a b)

    go : (p q : Bool) → lt x low ≡ p → lt high x ≡ q → In (cond p low (cond q high x))
    go true q h k = inside low (le_self low f) o
    go false true h k = inside high o (le_self high g)
    go false false h k =
        or_i (is_nan x) _
        (λ n. let number : T (not (is_nan x)) = subst (λ (b : Bool). T (not b)) (sym n) tt in and_i (le low x) (le x high) (not_lt x low number f h) (not_gt high x g number k))

pub clamp_finite : (low high x : Float) → T (finite low) → T (finite high) → T (finite x) → T (finite (clamp_of low high x))
unfolding clamp_of
clamp_finite low high x f g h = go (lt x low) (lt high x)
  where
    go : (p q : Bool) → T (finite (cond p low (cond q high x)))
    go true q = f
    go false true = g
    go false false = h

-- a frame is in [-1, 1] or a NaN
pub clamp_unit : (x : Float) → T (is_nan (clamp_of minus_one one x) || (le minus_one (clamp_of minus_one one x) && le (clamp_of minus_one one x) one))
unfolding le lt
clamp_unit x = clamp_in minus_one one x tt tt tt

-- a ratio is in [0, 16]
pub ratio_in : (x : Float) → T (le zero32 (ratio_of x)) × T (le (ratio_of x) sixteen)
unfolding ratio_of le lt eq is_nan
ratio_in x = go (finite x) (λ h. h)
  where
    number : (y : Float) → T (finite y) → T (is_nan y || (le zero32 y && le y sixteen)) → T (le zero32 y) × T (le y sixteen)
    number (fin s m e) f t = (and_l (le zero32 (fin s m e)) (le (fin s m e) sixteen) t, and_r (le zero32 (fin s m e)) (le (fin s m e) sixteen) t)
    number nan f t = absurd f
    number (inf s) f t = absurd f

    go : (b : Bool) → (T b → T (finite x)) → T (le zero32 (cond b (clamp_of zero32 sixteen x) zero32)) × T (le (cond b (clamp_of zero32 sixteen x) zero32) sixteen)
    go true h = number (clamp_of zero32 sixteen x) (clamp_finite zero32 sixteen x tt tt (h tt)) (clamp_in zero32 sixteen x tt tt tt)
    go false h = (tt, tt)
