-- A held tone stays level: where the three samples are one 16-bit whole number, every output is that number. Assumes nothing.
use Rattle.std.proofs.Common.{◌≡◌, ℕ, zero, suc, ◌+◌, ◌*◌, ◌^◌, ◌<◌, ◌≤◌, Bool, true, false, cond, T, List, [], ◌∷◌, ◌++◌, replicate, ℤ, pos, negsuc, ◌+ℤ◌, ◌-ℤ◌, neg_ℤ, nat_abs, sym, refl, ap, ◌∙◌, subst, le_trans, le_refl, mul-pos, mul-zero, zero-mul, mul-one, arith, lit≤}
use lib.Signed.{mag}
use lib.IntN.{neg_ℤ-+ℤ, +ℤ_assoc, +ℤ_comm, +ℤ_idl, +ℤ_idr, +ℤ_invl, +ℤ_invr, +ℤ-neg_ℤ_cancel}
use lib.ListN.{replicate-append-replicate}
use lib.Ieee.{Float, nan, inf, fin, binary32, up, down, unlike, is_nan, lt, le, add, sub, mul, neg, of_int}
use lib.Ieee.Exact.{HasValue}
use lib.Ieee.Fits.{down_pos, of_int-fits}
use lib.Ieee.Scale.{finite}
use Rattle.floats.specs.Defs.{zero32, one, sixteen, min_of}
use Rattle.floats.specs.Whole.{Small, round_at_lem, mul_value, add_small, add_zero_right}
use Rattle.floats.specs.Unit.{in_unit}
use Rattle.floats.specs.Upto.{Upto, add_upto, mul_upto, whole_upto, upto_finite}
use Rattle.resample.specs.Defs.{half, two, three, four, five, cubic, pos_at, sample_from, index_at, sample_at, samples, resampled}
use Rattle.resample.specs.Laws.{points_three}
use Rattle.resample.specs.Range.{end_upto}
use Rattle.resample.proofs.Integers.{IsInt, minus, of_int_is, add_int, sub_int, size_add, size_sub}
use Rattle.resample.proofs.Integers.{multiple, size_multiple, times_int}
use Rattle.resample.proofs.Held.{size_16, fourth_held}

-- a finite number times a zero, of either sign, is a zero
times_zero : (t x : Float) → T (finite t) → Small 0 x → Small 0 (mul binary32 t x)
unfolding mul
times_zero nan x f z = absurd f
times_zero (inf s) x f z = absurd f
times_zero (fin s m e) nan f z = absurd z.value
times_zero (fin s m e) (inf q) f z = absurd z.value
times_zero (fin s m e) (fin q n d) f z =
    let b : z.size ≤ 0 = z.bound in
    let k : z.size ≡ 0 = omega arith in
    let o : n * up d ≡ 0 = sym (mul-one (n * up d)) ∙ z.value.1 ∙ ap (λ (j : ℕ). j * down d) k ∙ zero-mul (down d) in
    let c = down e * down d in
    let p : m * up e * (n * up d) ≡ 0 * c = ap (λ (j : ℕ). m * up e * j) o ∙ mul-zero (m * up e) ∙ sym (zero-mul c) in
    record {
      sign = unlike s q;
      size = 0;
      value = round_at_lem (unlike s q) (m * up e * (n * up d)) 0 c (mul-pos (down_pos e) (down_pos d)) (lit≤ tt) p;
      bound = le_refl 0;
    }

-- ---- the cubic through four equal points
module _ (z : ℤ) (h : nat_abs z ≤ 32768) where
  abbrev x : Float
  x = of_int binary32 z

  x_is : IsInt x z
  x_is = of_int_is z (le_trans h (lit≤ tt))

  zero_small : (y : Float) → IsInt y (pos 0) → Small 0 y
  zero_small y v = record { sign = false; size = 0; value = v; bound = le_refl 0 }

  no_first : IsInt (sub binary32 x x) (pos 0)
  no_first = subst (IsInt (sub binary32 x x)) (+ℤ_invr z) (sub_int x x z z x_is x_is (omega arith))

  -- what stands with t, t^2 and t^3 in the cubic is 0
  abbrev third_order : Float
  third_order = sub binary32 (add binary32 (mul binary32 three (sub binary32 x x)) x) x

  abbrev second_order : Float
  second_order = sub binary32 (add binary32 (sub binary32 (mul binary32 two x) (mul binary32 five x)) (mul binary32 four x)) x

  no_third : IsInt third_order (pos 0)
  no_third =
      let y = mul binary32 three (sub binary32 x x) in
      let v : IsInt y (pos 0) = mul_value three (sub binary32 x x) false false 3 0 (lit≤ tt) (refl, refl) no_first in
      let w : IsInt (add binary32 y x) z = subst (IsInt (add binary32 y x)) (+ℤ_idl z) (add_int y x (pos 0) z v x_is (omega arith)) in
      subst (IsInt (sub binary32 (add binary32 y x) x)) (+ℤ_invr z) (sub_int (add binary32 y x) x z z w x_is (omega arith))

  -- 2 z - 5 z + 4 z - z
  none_left : (q : ℤ) → z +ℤ z -ℤ (q +ℤ z) +ℤ q -ℤ z ≡ pos 0
  none_left q =
      ap (λ (k : ℤ). z +ℤ z +ℤ k +ℤ q -ℤ z) (neg_ℤ-+ℤ q z ∙ +ℤ_comm (neg_ℤ q) (neg_ℤ z))
      ∙ ap (λ (k : ℤ). k -ℤ z)
      (+ℤ_assoc (z +ℤ z) (neg_ℤ z +ℤ neg_ℤ q) q
      ∙ ap (λ (k : ℤ). z +ℤ z +ℤ k) (+ℤ_assoc (neg_ℤ z) (neg_ℤ q) q ∙ ap (λ (k : ℤ). neg_ℤ z +ℤ k) (+ℤ_invl q) ∙ +ℤ_idr (neg_ℤ z))
      ∙ +ℤ-neg_ℤ_cancel z z)
      ∙ +ℤ_invr z

  no_second : IsInt second_order (pos 0)
  no_second =
      let y = sub binary32 (mul binary32 two x) (mul binary32 five x) in
      let d = multiple 1 z -ℤ multiple 4 z in
      let l = size_sub (multiple 1 z) (multiple 4 z) in
      let m = size_add d (multiple 3 z) in
      let m₂ = size_multiple 1 z in
      let m₄ = size_multiple 3 z in
      let m₅ = size_multiple 4 z in
      let v₂ = times_int 1 two x z (refl, refl) x_is (omega arith) in
      let v₄ = times_int 3 four x z (refl, refl) x_is (omega arith) in
      let v₅ = times_int 4 five x z (refl, refl) x_is (omega arith) in
      let v = sub_int (mul binary32 two x) (mul binary32 five x) (multiple 1 z) (multiple 4 z) v₂ v₅ (omega (arith, m₂, m₅)) in
      let w = add_int y (mul binary32 four x) d (multiple 3 z) v v₄ (omega (arith, l, m₂, m₄, m₅)) in
      subst (IsInt second_order) (none_left (multiple 3 z))
      (sub_int (add binary32 y (mul binary32 four x)) x (d +ℤ multiple 3 z) z w x_is (omega (arith, l, m, m₂, m₄, m₅)))

  not_minus : (z : ℤ) → nat_abs z ≡ 0 → minus z ≡ false
  not_minus (pos n) e = refl
  not_minus (negsuc n) e = absurd (omega arith)

  cubic_level : (t : Float) → T (finite t) → T (finite (mul binary32 half t)) → cubic x x x x t ≡ x
  unfolding cubic
  cubic_level t f g =
      let u = add binary32 second_order (mul binary32 t third_order) in
      let y = add binary32 (sub binary32 x x) (mul binary32 t u) in
      let e = mul binary32 (mul binary32 half t) y in
      let c : Small 0 (mul binary32 t third_order) = times_zero t third_order f (zero_small third_order no_third) in
      let b : Small 0 u = add_small 0 0 (zero_small second_order no_second) c (lit≤ tt) in
      let a : Small 0 y = add_small 0 0 (zero_small (sub binary32 x x) no_first) (times_zero t u f b) (lit≤ tt) in
      let v : Small 0 e = times_zero (mul binary32 half t) y g a in
      let l : v.size ≤ 0 = v.bound in
      let o : v.size ≡ 0 = omega arith in
      add_zero_right x e (minus z) v.sign (nat_abs z) (le_trans h (lit≤ tt)) (of_int-fits binary32 z) x_is
      (subst (λ (k : ℕ). HasValue e v.sign k 1) o v.value) (not_minus z)

-- ---- the outputs of a render that needs no new sample
-- what holds of a and of b holds of the lesser
min_either : (P : Float → Type 0) (a b : Float) → P a → P b → P (min_of a b)
unfolding min_of
min_either P a b p q = by (is_nan a) (lt b a) where
  by : (u v : Bool) → P (cond u b (cond v b a))
  by true v = q
  by false true = q
  by false false = p

module _ (z : ℤ) (h : mag z < 2 ^ 15)
    (fraction ratio : Float) (f : T (in_unit fraction)) (r : T (le zero32 ratio)) (r16 : T (le ratio sixteen)) where
  -- the place in the cubic of output k
  abbrev t_at : ℕ → Float
  t_at k = min_of (sub binary32 (pos_at fraction ratio k) (of_int binary32 (pos 0))) one

  t_upto : (k : ℕ) → k ≤ 256 → Upto 4097 (t_at k)
  unfolding sub neg of_int
  t_upto k l =
      let p = pos_at fraction ratio k in
      min_either (Upto 4097) (sub binary32 p (of_int binary32 (pos 0))) one
      (add_upto p (neg (of_int binary32 (pos 0))) 4097 0 (lit≤ tt) (end_upto fraction ratio k f r r16 l) (lit≤ tt, λ q. refl))
      (whole_upto one 1 4097 (lit≤ tt) (refl, refl))

  half_upto : Upto 1 half
  half_upto = (lit≤ tt, λ q. absurd (subst T (sym q) tt))

  abbrev held : Float
  held = of_int binary32 z

  -- the three samples, and the point after them
  abbrev points : List Float
  points = held ∷ held ∷ held ∷ held ∷ []

  sample_level : (k : ℕ) → k ≤ 256 → sample_at points ratio fraction k ≡ held
  unfolding sample_at sample_from
  sample_level k l =
      let i : index_at points (pos_at fraction ratio k) ≡ 0 = omega arith in
      ap (sample_from points (pos_at fraction ratio k)) i
      ∙ cubic_level z (size_16 z h) (t_at k) (upto_finite (t_at k) 4097 (t_upto k l))
      (upto_finite (mul binary32 half (t_at k)) 4097 (mul_upto half (t_at k) 1 4097 (lit≤ tt) half_upto (t_upto k l)))

  samples_level : (n : ℕ) → n ≤ 256 → samples points ratio fraction n ≡ replicate n held
  unfolding samples
  samples_level zero l = refl
  samples_level (suc n) l =
      let e : n + 1 ≡ suc n = omega arith in
      ap (λ (y : List Float). y ++ (sample_at points ratio fraction n ∷ [])) (samples_level n (omega arith))
      ∙ ap (λ (y : Float). replicate n held ++ (y ∷ [])) (sample_level n (omega arith))
      ∙ replicate-append-replicate n 1 held
      ∙ ap (λ (k : ℕ). replicate k held) e

  -- The law.
  pub held_level : (n : ℕ) → n ≤ 256 → resampled (held ∷ held ∷ held ∷ []) ratio fraction n ≡ replicate n held
  unfolding resampled
  held_level n l =
      ap (λ (y : List Float). samples y ratio fraction n)
      (points_three held held held ∙ ap (λ (y : Float). held ∷ held ∷ held ∷ y ∷ []) (fourth_held held z h))
      ∙ samples_level n l
