-- The nearest nibble worked out: it is the first whose sample, unclamped, reaches t, or the one before it. Assumes nothing.
use Prim.Native.Nat.{ℕ, zero, suc, ◌+◌, ◌*◌, ◌-◌, ◌/◌, ◌≤◌, ◌<◌, min}
use mathlib.Core.Path.{◌≡◌, refl, ap, ◌∙◌}
use mathlib.Core.Bool.{Bool, true, false, cond}
use mathlib.Core.Logic.{◌⊎◌, inl, inr, ⊎_elim}
use native.Mathlib.Nat.{mul-le-mul_right, add-mul, one-mul, div-mul-le_self, lt-div-mul-add, le_of_lt}
use native.Mathlib.Omega.{arith}
use borrow.Author.Tests.{ltb-true, ltb-false, leb-true, leb-false, le-leb, lt-leb, eqb-true, eqb-false}
use lib.Dec.{ltb, leb, eqb}
use Rattle.nearest.specs.Least.{First}
use Rattle.nearest.specs.Levels.{apart_of, origin_of, level_at, away_at, reach_of}

-- ---- a number t between two others

away_under : (t a : ℕ) → a ≤ t → apart_of t a ≡ t - a
away_under t a h = omega arith

away_over : (t a : ℕ) → t ≤ a → apart_of t a ≡ a - t
away_over t a h = omega arith

under_le : (t a b : ℕ) → a ≤ t → b ≤ a → apart_of t a ≤ apart_of t b
under_le t a b h l = omega (arith, away_under t a h, away_under t b (omega arith))

under_lt : (t a b : ℕ) → a ≤ t → b < a → apart_of t a < apart_of t b
under_lt t a b h l = omega (arith, away_under t a h, away_under t b (omega arith))

over_le : (t a b : ℕ) → t ≤ a → a ≤ b → apart_of t a ≤ apart_of t b
over_le t a b h l = omega (arith, away_over t a h, away_over t b (omega arith))

low_le : (t a u b : ℕ) → a ≤ t → t ≤ u → u ≤ b → t - a ≤ u - t → apart_of t a ≤ apart_of t b
low_le t a u b h l m f = omega (arith, away_under t a h, away_over t b (omega arith))

up_lt : (t a u b : ℕ) → a ≤ t → t ≤ u → b ≤ a → u - t < t - a → apart_of t u < apart_of t b
up_lt t a u b h l m f = omega (arith, away_over t u l, away_under t b (omega arith))

positive : (n : ℕ) → (n ≡ 0 → ⊥) → 0 < n
positive zero f = absurd (f refl)
positive (suc n) f = omega arith

-- the first place u whose sample, unclamped, reaches t; 16 where none does
pub record Reaches (p predicted t u : ℕ) : Type 0 where
  pub within : u ≤ 16
  pub lower : (r : ℕ) → r < u → r * p + predicted < t + origin_of p
  pub upper : (r : ℕ) → u ≤ r → r < 16 → t + origin_of p ≤ r * p + predicted

module _ (p predicted t : ℕ) where
  pub reach_none : t + origin_of p ≤ predicted → 0 ≡ reach_of p predicted t
  unfolding reach_of
  reach_none h = simp (le-leb (t + origin_of p) predicted h)

  pub reach_some : (q : ℕ) → predicted < t + origin_of p → q ≡ (t + origin_of p - predicted + (p - 1)) / p
      → min 16 q ≡ reach_of p predicted t
  unfolding reach_of
  reach_some q h e = ap (min 16) e ∙ simp (lt-leb (t + origin_of p) predicted h)

module _ (p predicted t : ℕ) (some : 0 < p) where
  reach_by : (b : Bool) → leb (t + origin_of p) predicted ≡ b
      → Reaches p predicted t (cond b 0 (min 16 ((t + origin_of p - predicted + (p - 1)) / p)))
  reach_by true e =
      let h : t + origin_of p ≤ predicted = leb-true _ _ e in
      record { within = omega arith; lower = λ r l. absurd (omega arith); upper = λ r l m. omega arith }
  reach_by false e =
      let h : predicted < t + origin_of p = leb-false _ _ e in
      let n = t + origin_of p - predicted + (p - 1) in
      let q = n / p in
      let le : q * p ≤ n = div-mul-le_self n p in
      let lt : n < q * p + p = lt-div-mul-add some in
      record {
        within = omega arith;
        lower = λ r l. (let m : (r + 1) * p ≤ q * p = mul-le-mul_right p (omega arith) in omega (arith, add-mul r 1 p, one-mul p));
        upper = λ r l k. (let m : q * p ≤ r * p = mul-le-mul_right p (omega arith) in omega arith);
      }

  pub reach_is : Reaches p predicted t (reach_of p predicted t)
  unfolding reach_of
  reach_is = reach_by (leb (t + origin_of p) predicted) refl

  -- ---- which of the two it is
  module _ (small : t ≤ 65535) (u : ℕ) (up : Reaches p predicted t u) where
    abbrev y : ℕ → ℕ
    y r = level_at p predicted r

    abbrev away : ℕ → ℕ
    away = away_at p predicted t

    rises : (r k : ℕ) → r ≤ k → y r ≤ y k
    rises r k h = omega (arith, mul-le-mul_right p h)

    pub under : (r : ℕ) → r < u → y r ≤ t
    under r h = omega (arith, up.lower r h)

    pub over : (r : ℕ) → u ≤ r → r < 16 → t ≤ y r
    over r h l = omega (arith, up.upper r h l)

    -- below u the samples rise, once they are above the lowest sample
    steep : (r k : ℕ) → r < k → k < u → 0 < y k → y r < y k
    steep r k h l z =
        let m : (r + 1) * p ≤ k * p = mul-le-mul_right p (omega arith) in
        omega (arith, add-mul r 1 p, one-mul p, up.lower k l)

    either : (k : ℕ) → (k < u) ⊎ (u ≤ k)
    either k = go (ltb k u) refl
      where
        go : (b : Bool) → ltb k u ≡ b → (k < u) ⊎ (u ≤ k)
        go true e = inl (ltb-true k u e)
        go false e = inr (ltb-false k u e)

    pub quick_none : u ≡ 0 → First away 15 0
    quick_none e = record {
      within = omega arith;
      least = λ k h. over_le t (y 0) (y k) (over 0 (omega arith) (omega arith)) (rises 0 k (omega arith));
      first = λ k h. absurd (omega arith);
    }

    module _ (low : ℕ) (before : u ≡ low + 1) where
      -- u is not nearer than the one before
      abbrev Under : Type 0
      Under = u < 16 → t - y low ≤ y u - t

      least_low : Under → (best : ℕ) → best < u → y best ≡ y low → (k : ℕ) → k ≤ 15 → away best ≤ away k
      least_low f best b e k h = ⊎_elim lower upper (either k)
        where
          lower : k < u → away best ≤ away k
          lower l = under_le t (y best) (y k) (under best b) (rw e (rises k low (omega arith)))

          upper : u ≤ k → away best ≤ away k
          upper g =
              let o = over u (omega arith) (omega arith) in
              low_le t (y best) (y u) (y k) (under best b) o (rises u k g) (rw e (f (omega arith)))

      -- the one before, where no lower one has the same sample
      quick_low : Under → 0 < y low → First away 15 low
      quick_low f z = record {
        within = omega (arith, up.within);
        least = least_low f low (omega arith) refl;
        first = λ k h. under_lt t (y low) (y k) (under low (omega arith)) (steep k low h (omega arith) z);
      }

      -- and where all lower ones have it
      quick_flat : Under → y low ≡ 0 → First away 15 0
      quick_flat f z =
          let e : y 0 ≡ y low = omega (arith, rises 0 low (omega arith)) in
          record { within = omega arith; least = least_low f 0 (omega arith) e; first = λ k h. absurd (omega arith) }

      low_by : (b : Bool) → eqb (y low) 0 ≡ b → Under → First away 15 (cond b 0 low)
      low_by true e f = quick_flat f (eqb-true (y low) 0 e)
      low_by false e f = quick_low f (positive (y low) (eqb-false (y low) 0 e))

      -- the lowest one with the sample of the one before
      pub quick_under : Under → First away 15 (cond (eqb (y low) 0) 0 low)
      quick_under = low_by (eqb (y low) 0) refl

      alike_by : (b : Bool) → eqb (y low) 0 ≡ b → y low ≡ y (cond b 0 low)
      alike_by true e = omega (arith, eqb-true (y low) 0 e, rises 0 low (omega arith))
      alike_by false e = refl

      -- has that sample
      pub quick_alike : y low ≡ y (cond (eqb (y low) 0) 0 low)
      quick_alike = alike_by (eqb (y low) 0) refl

      -- the one that reaches t
      pub quick_up : u < 16 → y u - t < t - y low → First away 15 u
      quick_up l f = record {
        within = omega arith;
        least = λ k h. ⊎_elim (λ (m : k < u). le_of_lt (farther k m)) (nearer k) (either k);
        first = farther;
      }
        where
          nearer : (k : ℕ) → u ≤ k → away u ≤ away k
          nearer k g = over_le t (y u) (y k) (over u (omega arith) l) (rises u k g)

          farther : (k : ℕ) → k < u → away u < away k
          farther k m = up_lt t (y low) (y u) (y k) (under low (omega arith)) (over u (omega arith) l) (rises k low (omega arith)) f
