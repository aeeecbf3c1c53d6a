-- At ratio 1 and fraction 0 the outputs are the input from its second sample on, if the samples are 16-bit whole numbers. Assumes nothing.
use Rattle.std.specs.Prelude.{◌≡◌, ℕ, zero, suc, ◌+◌, ◌*◌, ◌/◌, ◌%◌, ◌^◌, ◌<◌, ◌≤◌, Bool, true, false, cond, not, ◌&&◌, T, leb, List, [], ◌∷◌, ◌++◌, map, length, get_or, take, drop, ℤ, pos, negsuc, FitsSigned, ◌==◌, nat_eq, nat_le, nat_lt, slice_index_or, Float}
use Rattle.std.proofs.Math.Path.{refl, ap}
use Rattle.std.proofs.Common.{sym, ◌∙◌, subst, mul-one, one-mul, add_comm, le_of_suc-le-suc, not-suc-le-zero, div-add-mod', add-zero, le_refl, le_trans, zero-mul, mul-pos, zero-lt-suc, lit≤, eqb→eq, leb→le, ltb→lt, le→leb, lt→ltb, T_not, length-drop, take-suc, get_or-drop}
use native.Mathlib.Omega.{arith}
use Rattle.std.specs.Int.Signed.{mag}
use Rattle.std.proofs.lemmas.List.{length-map}
use Rattle.std.specs.Float.{nan, fin}
use Rattle.std.specs.Float.Ieee.{binary32, up, down, lt, is_nan, sum, add, sub, mul, fits, whole, in_signed, in_float, of_int, to_unsigned}
use Rattle.std.specs.Float.Ieee.Fits.{up_pos, and_l, and_r, and_i, of_int-fits, mul-fits, add-fits}
use Rattle.std.specs.Float.Ieee.Exact.{HasValue}
use Rattle.std.specs.Float.Ieee.Back.{round_whole, whole_unique, unsigned_back, positive_back, negative_back}
use Rattle.std.specs.Int.{w16}
use Rattle.floats.specs.Defs.{zero32, one, floor_of, min_of}
use Rattle.floats.specs.Whole.{Small, round_at_lem, mul_value, common, add_small, mul_small, sub_small, add_zero_right, sub_same, has_finite}
use Rattle.floats.specs.Unit.{floor_whole}
use Rattle.resample.specs.Defs.{pos_at, next_of, cubic, sample_from, index_at, sample_at, samples, resampled, half, two, three, four, five}
use Rattle.resample.specs.Laws.{points_long}

-- x is a whole number from -32768 to 32767, and not -0
abbrev pub sample16 : Float → Bool
sample16 x = fits binary32 x && in_signed binary32 15 x

-- ---- the cubic at t = 0
module _ (p0 p1 p2 p3 : Float) (s0 : Small 32768 p0) (s1 : Small 32768 p1) (s2 : Small 32768 p2) (s3 : Small 32768 p3) where
  const : (k : ℕ) → Small k (fin false k (pos 0))
  const k = record { sign = false; size = k; value = (refl, mul-one (k * 1) ∙ mul-one k ∙ sym (mul-one k)); bound = le_refl k }

  two_is : Small 2 two
  two_is = record { sign = false; size = 2; value = (refl, refl); bound = le_refl 2 }

  four_is : Small 4 four
  four_is = record { sign = false; size = 4; value = (refl, refl); bound = le_refl 4 }

  inner : Small 262144 (sub binary32 (add binary32 (mul binary32 three (sub binary32 p1 p2)) p3) p0)
  inner = sub_small 229376 32768 (add_small 196608 32768 (mul_small 3 65536 (const 3) (sub_small 32768 32768 s1 s2 (lit≤ tt)) (lit≤ tt)) s3 (lit≤ tt)) s0 (lit≤ tt)

  middle : Small 393216 (add binary32 (sub binary32 (add binary32 (sub binary32 (mul binary32 two p0) (mul binary32 five p1)) (mul binary32 four p2)) p3)
      (mul binary32 zero32 (sub binary32 (add binary32 (mul binary32 three (sub binary32 p1 p2)) p3) p0)))
  middle =
      add_small 393216 0
      (sub_small 360448 32768
      (add_small 229376 131072 (sub_small 65536 163840 (mul_small 2 32768 two_is s0 (lit≤ tt)) (mul_small 5 32768 (const 5) s1 (lit≤ tt)) (lit≤ tt)) (mul_small 4 32768 four_is s2 (lit≤ tt)) (lit≤ tt))
      s3 (lit≤ tt))
      (mul_small 0 262144 (const 0) inner (lit≤ tt)) (lit≤ tt)

  abbrev slope : Float
  slope = add binary32 (sub binary32 p2 p0)
      (mul binary32 zero32
      (add binary32 (sub binary32 (add binary32 (sub binary32 (mul binary32 two p0) (mul binary32 five p1)) (mul binary32 four p2)) p3)
      (mul binary32 zero32 (sub binary32 (add binary32 (mul binary32 three (sub binary32 p1 p2)) p3) p0))))

  slope_small : Small 65536 slope
  slope_small = add_small 65536 0 (sub_small 32768 32768 s2 s0 (lit≤ tt)) (mul_small 0 393216 (const 0) middle (lit≤ tt)) (lit≤ tt)

  half_zero : mul binary32 half zero32 ≡ zero32
  unfolding mul
  half_zero = refl

  pub cubic_zero : T (fits binary32 p1) → (s1.size ≡ 0 → s1.sign ≡ false) → cubic p0 p1 p2 p3 zero32 ≡ p1
  unfolding cubic
  cubic_zero f n =
      let z : Small 0 (mul binary32 zero32 slope) = mul_small 0 65536 (const 0) slope_small (lit≤ tt) in
      let b : z.size ≤ 0 = z.bound in
      let e : z.size ≡ 0 = omega arith in
      ap (λ (h : Float). add binary32 p1 (mul binary32 h slope)) half_zero
      ∙ add_zero_right p1 (mul binary32 zero32 slope) s1.sign z.sign s1.size (le_trans s1.bound (lit≤ tt)) f s1.value
      (subst (λ (k : ℕ). HasValue (mul binary32 zero32 slope) z.sign k 1) e z.value) n

-- ---- a 16-bit whole number
no_value : (m c : ℕ) → m * c ≡ 0 → 0 < c → m ≡ 0
no_value zero c h p = refl
no_value (suc m) c h p = let q : 0 < suc m * c = mul-pos (zero-lt-suc m) p in absurd (omega arith)

-- the same as a value, with 0 not negative
abbrev Wholes : Float → Type 0
Wholes x = (v : Small 32768 x) × (v.size ≡ 0 → v.sign ≡ false)

signs : (s : Bool) (m a : ℕ) → (a ≡ 0 → m ≡ 0) → T (not (s && m == 0)) → a ≡ 0 → s ≡ false
signs false m a h n z = refl
signs true m a h n z = absurd (T_not (m == 0) n (subst (λ (k : ℕ). T (k == 0)) (sym (h z)) tt))

in_range_lem : (s : Bool) (a : ℕ) → T (cond s (nat_le a (2 ^ 15)) (nat_lt a (2 ^ 15))) → a ≤ 32768
in_range_lem true a t = leb→le a (2 ^ 15) t
in_range_lem false a t = let l : a < 2 ^ 15 = ltb→lt a (2 ^ 15) t in omega arith

wholes : (x : Float) → T (in_signed binary32 15 x) → Wholes x
unfolding in_signed whole
wholes (fin s m e) t =
    let a = m * up e / down e in
    let A = nat_eq (m * up e % down e) 0 in
    let B = leb a (2 ^ 24) in
    let C = not (s && m == 0) in
    let D = cond s (nat_le a (2 ^ 15)) (nat_lt a (2 ^ 15)) in
    let r : m * up e % down e ≡ 0 = eqb→eq (m * up e % down e) 0 (and_l A B (and_l (A && B) C (and_l (A && B && C) D t))) in
    let v : m * up e ≡ a * down e = sym (div-add-mod' (m * up e) (down e)) ∙ ap (λ (k : ℕ). a * down e + k) r ∙ add-zero (a * down e) in (
      record { sign = s; size = a; value = (refl, mul-one (m * up e) ∙ v); bound = in_range_lem s a (and_r (A && B && C) D t) },
      signs s m a (λ z. no_value m (up e) (v ∙ ap (λ (k : ℕ). k * down e) z ∙ zero-mul (down e)) (up_pos e)) (and_r (A && B) C (and_l (A && B && C) D t)),
    )
wholes nan t = elim t [ ]
wholes (lib.Ieee.inf _) t = elim t [ ]

-- ---- the place of output k is k, as long as k is a float
module _ (k : ℕ) (l : k ≤ 2 ^ 24) where
  abbrev at : Float
  at = of_int binary32 (pos k)

  at_value : HasValue at false k 1
  unfolding of_int
  at_value = round_whole binary32 false k l

  place_is : pos_at zero32 one k ≡ at
  unfolding pos_at sum
  place_is =
      let v : HasValue (mul binary32 one at) false (1 * k) 1 = mul_value one at false false 1 k (omega arith) (refl, refl) at_value in
      let e : mul binary32 one at ≡ at = whole_unique binary32 (mul binary32 one at) at false k (mul-fits binary32 one at) (of_int-fits binary32 (pos k)) (subst (λ (n : ℕ). HasValue (mul binary32 one at) false n 1) (one-mul k) v) at_value in
      let c = common zero32 at false false 0 k (refl, refl) at_value in
      ap (add binary32 zero32) e
      ∙ whole_unique binary32 (add binary32 zero32 at) at false k (add-fits binary32 zero32 at) (of_int-fits binary32 (pos k))
      (subst (λ (x : Float). HasValue x false k 1) (sym c.1.1) (both c.0 c.1.0)) at_value
    where
      both : (c : ℕ) → 0 < c → HasValue (sum binary32 false (0 * c) false (k * c) c) false k 1
      both c h = round_at_lem false (0 * c + k * c) k c h l (omega arith)

  -- and nothing is left of it
  rest_is : sub binary32 at at ≡ zero32
  rest_is = sub_same at (has_finite at false k 1 at_value)

  t_is : min_of (sub binary32 at at) one ≡ zero32
  unfolding min_of lt is_nan
  t_is = ap (λ (x : Float). min_of x one) rest_is

  index_is : (points : List Float) → k + 3 < length points → index_at points at ≡ k
  unfolding in_float
  index_is points h =
      let e : to_unsigned 64 at ≡ k = (unsigned_back binary32 64 k (le→leb k (2 ^ 24) l) (omega arith)).1 in
      omega arith

  pub next_exact : next_of zero32 one k ≡ zero32
  unfolding next_of
  next_exact = ap (λ (p : Float). sub binary32 p (floor_of p)) place_is ∙ ap (sub binary32 at) (floor_whole at false k at_value) ∙ rest_is

-- ---- one output
-- every element is such a number
abbrev pub AllSamples : List Float → Type 0
AllSamples input = (j : ℕ) → j < length input → T (sample16 (slice_index_or input j nan))

-- the cubic at 0 through the points from k on
pub sample_at_zero : (points : List Float) (k : ℕ) → k + 3 < length points → k ≤ 2 ^ 24
    → sample_at points one zero32 k ≡ cubic (slice_index_or points k nan) (slice_index_or points (k + 1) nan) (slice_index_or points (k + 2) nan) (slice_index_or points (k + 3) nan) zero32
unfolding sample_at sample_from
sample_at_zero points k h l =
    ap (λ (p : Float). sample_from points p (index_at points p)) (place_is k l)
    ∙ ap (sample_from points (at k l)) (index_is k l points h)
    ∙ ap (cubic (slice_index_or points k nan) (slice_index_or points (k + 1) nan) (slice_index_or points (k + 2) nan) (slice_index_or points (k + 3) nan)) (t_is k l)

pub sample_exact : (points : List Float) (k : ℕ) → AllSamples points → k + 3 < length points → k ≤ 2 ^ 24 → sample_at points one zero32 k ≡ slice_index_or points (k + 1) nan
sample_exact points k all h l =
    let w : (j : ℕ) → j < length points → Wholes (slice_index_or points j nan) = λ j b. wholes (slice_index_or points j nan) (and_r (fits binary32 (slice_index_or points j nan)) _ (all j b)) in
    sample_at_zero points k h l
    ∙ cubic_zero (slice_index_or points k nan) (slice_index_or points (k + 1) nan) (slice_index_or points (k + 2) nan) (slice_index_or points (k + 3) nan)
    (w k (omega arith)).0 (w (k + 1) (omega arith)).0 (w (k + 2) (omega arith)).0 (w (k + 3) (omega arith)).0
    (and_l (fits binary32 (slice_index_or points (k + 1) nan)) _ (all (k + 1) (omega arith))) (w (k + 1) (omega arith)).1

-- ---- all outputs
samples_exact : (points : List Float) (n : ℕ) → n + 3 ≤ length points → n ≤ 2 ^ 24 → AllSamples points → samples points one zero32 n ≡ take n (drop 1 points)
unfolding samples
samples_exact points zero h l all = refl
samples_exact points (suc n) h l all =
    let inside : n < length (drop 1 points) = omega (arith, length-drop 1 points) in
    ap (λ (y : List Float). y ++ (sample_at points one zero32 n ∷ [])) (samples_exact points n (omega arith) (omega arith) all)
    ∙ ap (λ (x : Float). take n (drop 1 points) ++ (x ∷ [])) (sample_exact points n all (omega arith) (omega arith) ∙ ap (λ (j : ℕ). get_or points j nan) (add_comm n 1) ∙ sym (get_or-drop 1 points n nan))
    ∙ sym (take-suc (drop 1 points) n nan inside)

-- The law. n is at most 2^24, since the places beyond are no floats; a render has at most 256 samples.
pub exact : (input : List Float) (n : ℕ) → length input ≡ n + 3 → n ≤ 2 ^ 24 → AllSamples input → resampled input one zero32 n ≡ take n (drop 1 input)
unfolding resampled samples
exact input zero h l all = refl
exact input (suc n) h l all =
    ap (λ (points : List Float). samples points one zero32 (suc n)) (points_long input (omega arith))
    ∙ samples_exact input (suc n) (omega arith) l all

-- ---- over the integers that the decoders give
pub sample16_of : (z : ℤ) → mag z < 2 ^ 15 → T (sample16 (of_int binary32 z))
unfolding in_float
sample16_of (pos n) h = and_i (fits binary32 (of_int binary32 (pos n))) _ (of_int-fits binary32 (pos n)) (positive_back binary32 15 n (le→leb n (2 ^ 24) (omega arith)) h).0
sample16_of (negsuc n) h = and_i (fits binary32 (of_int binary32 (negsuc n))) _ (of_int-fits binary32 (negsuc n)) (negative_back binary32 15 n (lt→ltb n (2 ^ 24) (omega arith)) h).0

all_of : (zs : List ℤ) → ((j : ℕ) → j < length zs → FitsSigned w16 (slice_index_or zs j (pos 0))) → AllSamples (map (of_int binary32) zs)
all_of [] a j h = absurd (not-suc-le-zero h)
all_of (z ∷ zs) a zero h = sample16_of z (a zero (zero-lt-suc (length zs))).sfits
all_of (z ∷ zs) a (suc j) h = all_of zs (λ i b. a (suc i) (omega arith)) j (le_of_suc-le-suc h)

map_take : (n : ℕ) (zs : List ℤ) → take n (map (of_int binary32) zs) ≡ map (of_int binary32) (take n zs)
map_take zero zs = refl
map_take (suc n) [] = refl
map_take (suc n) (z ∷ zs) = ap (λ (r : List Float). of_int binary32 z ∷ r) (map_take n zs)

map_tail : (zs : List ℤ) → drop 1 (map (of_int binary32) zs) ≡ map (of_int binary32) (drop 1 zs)
map_tail [] = refl
map_tail (z ∷ zs) = refl

pub exact_ints : (zs : List ℤ) (n : ℕ) → length zs ≡ n + 3 → n ≤ 2 ^ 24 → ((j : ℕ) → j < length zs → FitsSigned w16 (slice_index_or zs j (pos 0)))
    → resampled (map (of_int binary32) zs) one zero32 n ≡ map (of_int binary32) (take n (drop 1 zs))
exact_ints zs n h l all =
    exact (map (of_int binary32) zs) n (length-map zs (of_int binary32) ∙ h) l (all_of zs all)
    ∙ ap (take n) (map_tail zs)
    ∙ map_take n (drop 1 zs)
