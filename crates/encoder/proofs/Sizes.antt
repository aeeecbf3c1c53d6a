-- The bytes of an encoding are as many as `adpcm_size` says, its samples as many as were given, and its sum is that of their
-- squared differences. Assumes nothing.
use Prim.Native.Nat.{ℕ, zero, suc, ◌+◌, ◌*◌, ◌-◌, ◌/◌, ◌%◌, ◌≤◌, ◌<◌, min}
use mathlib.Core.Path.{◌≡◌, refl, sym, ap, ◌∙◌}
use mathlib.Core.Bool.{Bool, true, false}
use mathlib.Core.Logic.{◌⊎◌, inl, inr, ⊎_elim}
use mathlib.Core.List.{List, [], ◌∷◌, ◌++◌}
use native.Mathlib.Nat.{add_assoc, le_of_lt}
use native.Mathlib.Omega.{arith}
use borrow.Author.Tests.{leb-true, leb-false}
use lib.Dec.{leb}
use lib.IntN.{ℤ}
use lib.ListN.{length, take, drop, length-append, length-take, length-drop, take-append-drop}
use Rattle.adpcm.specs.declared.context.AdpcmContext.{AdpcmContext}
use Rattle.adpcm.specs.Places.{nibble_of, size_of, nibble_at_lem}
use Rattle.nearest.specs.Nearest.{difference_of}
use Rattle.trial.proofs.Trial.{length_nibbles, length_reconstructed}
use Rattle.trial.specs.Trial.{frame_samples, pair_first, pair_second, nibbles_of, squared_error, error_of, kept_of}
use Rattle.encoder.specs.Encode.{Encoded, frame_with, frame_of, encoded_from}
use Rattle.encoder.specs.Frame.{frame_size}
use Rattle.encoder.proofs.Packed.{length_packed}

zero_or : (n : ℕ) → (n ≡ 0) ⊎ (0 < n)
zero_or zero = inl refl
zero_or (suc n) = inr (omega arith)

pub le_or : (a b : ℕ) → (a ≤ b) ⊎ (b ≤ a)
le_or a b = go (leb a b) refl
  where
    go : (t : Bool) → leb a b ≡ t → (a ≤ b) ⊎ (b ≤ a)
    go true e = inl (leb-true a b e)
    go false e = inr (le_of_lt (leb-false a b e))

-- ---- the size of n samples

-- 14 samples more take 8 bytes more
pub size_more : (m : ℕ) → size_of (frame_samples + m) ≡ 8 + size_of m
unfolding size_of
size_more m =
    let r : (14 + m) % 14 ≡ m % 14 = omega arith in
    let q : (14 + m) / 14 ≡ 1 + m / 14 = omega arith in
    ⊎_elim
    (λ (z : m % 14 ≡ 0). omega (arith, (nibble_at_lem (14 + m)).first (r ∙ z), (nibble_at_lem m).first z, q))
    (λ (z : 0 < m % 14). omega (arith, (nibble_at_lem (14 + m)).later (omega (arith, r)), (nibble_at_lem m).later z, q, r))
    (zero_or (m % 14))

pub size_none : size_of 0 ≡ 0
unfolding size_of nibble_of
size_none = refl

-- one frame
pub size_frame : (r : ℕ) → 0 < r → r ≤ frame_samples → size_of r ≡ frame_size r
unfolding size_of
size_frame r h l =
    ⊎_elim
    (λ (z : r % 14 ≡ 0). (let e : r ≡ 14 = omega arith in omega (arith, (nibble_at_lem r).first z)))
    (λ (z : 0 < r % 14). omega (arith, (nibble_at_lem r).later z, (same z).0, (same z).1))
    (zero_or (r % 14))
  where
    same : 0 < r % 14 → (r % 14 ≡ r) × (r / 14 ≡ 0)
    same z = (omega arith, omega arith)

-- the first frame, of m samples, and those after it
pub size_split : (n m : ℕ) → m ≡ min frame_samples n → 0 < n → size_of n ≡ frame_size m + size_of (n - frame_samples)
size_split n m e h = ⊎_elim full short (le_or frame_samples n)
  where
    full : frame_samples ≤ n → size_of n ≡ frame_size m + size_of (n - frame_samples)
    full z =
        let f : frame_samples + (n - frame_samples) ≡ n = omega arith in
        let g : size_of n ≡ 8 + size_of (n - frame_samples) = ap size_of (sym f) ∙ size_more (n - frame_samples) in
        omega (arith, g)

    short : n ≤ frame_samples → size_of n ≡ frame_size m + size_of (n - frame_samples)
    short z =
        let f : m ≡ n = omega arith in
        let g : n - frame_samples ≡ 0 = omega arith in
        let none : size_of (n - frame_samples) ≡ 0 = ap size_of g ∙ size_none in
        omega (arith, none, size_frame n h z)

-- ---- one frame

module _ (k ts : List ℤ) (h0 h1 : ℤ) (b : ℕ) where
  pub length_frame_with : length (frame_with k ts h0 h1 b).bytes ≡ frame_size (length ts)
  unfolding frame_with
  length_frame_with =
      let vs = nibbles_of (b % 16) (pair_first k b) (pair_second k b) ts h0 h1 in
      omega (arith, length_packed vs, length_nibbles (b % 16) (pair_first k b) (pair_second k b) ts h0 h1)

  pub frame_reconstructed : length (frame_with k ts h0 h1 b).reconstructed ≡ length ts
  unfolding frame_with
  frame_reconstructed = length_reconstructed (b % 16) (pair_first k b) (pair_second k b) ts h0 h1

  frame_error : (frame_with k ts h0 h1 b).error ≡ squared_error ts (frame_with k ts h0 h1 b).reconstructed
  unfolding frame_with error_of
  frame_error = refl

-- ---- n frames

-- as many frames as the samples ask for
pub record Count (ts : List ℤ) (n : ℕ) : Type 0 where
  pub most : length ts ≤ frame_samples * n
  pub last : frame_samples * n < length ts + frame_samples

pub count_of : (ts : List ℤ) → Count ts ((length ts + 13) / 14)
count_of ts = record { most = omega arith; last = omega arith }

pub count_next : (ts : List ℤ) (n : ℕ) → Count ts (suc n) → Count (drop frame_samples ts) n
count_next ts n p = record { most = omega (arith, length-drop 14 ts, p.most); last = omega (arith, length-drop 14 ts, p.last) }

none : (ts : List ℤ) → length ts ≡ 0 → 0 ≡ squared_error ts []
unfolding squared_error
none [] e = refl
none (t ∷ ts) e = absurd (omega arith)

squared_append : (ts us ys zs : List ℤ) → length ts ≡ length ys
    → squared_error (ts ++ us) (ys ++ zs) ≡ squared_error ts ys + squared_error us zs
unfolding squared_error
squared_append [] us [] zs e = omega arith
squared_append [] us (y ∷ ys) zs e = absurd (omega arith)
squared_append (t ∷ ts) us [] zs e = absurd (omega arith)
squared_append (t ∷ ts) us (y ∷ ys) zs e =
    let q = difference_of t y * difference_of t y in
    ap (λ (n : ℕ). q + n) (squared_append ts us ys zs (omega arith)) ∙ sym (add_assoc q (squared_error ts ys) (squared_error us zs))

-- of n + 1 frames, the first and the others
module _ (k : List ℤ) (n : ℕ) (ts : List ℤ) (x : AdpcmContext) where
  abbrev now : List ℤ
  now = take frame_samples ts

  abbrev then : List ℤ
  then = drop frame_samples ts

  abbrev b : ℕ
  b = kept_of k now x.history0 x.history1

  abbrev first : Encoded
  first = frame_of k now x

  abbrev others : Encoded
  others = encoded_from n k then first.context

  size_next : Count ts (suc n) → length others.bytes ≡ size_of (length then)
      → length (first.bytes ++ others.bytes) ≡ size_of (length ts)
  size_next p next =
      let some : 0 < length ts = omega (arith, p.last) in
      length-append first.bytes others.bytes
      ∙ (λ i. length_frame_with k now x.history0 x.history1 b i + (next ∙ ap size_of (length-drop frame_samples ts)) i)
      ∙ sym (size_split (length ts) (length now) (length-take frame_samples ts) some)

  count_now : length first.reconstructed ≡ length now
  count_now = frame_reconstructed k now x.history0 x.history1 b

  reconstructed_next : length others.reconstructed ≡ length then
      → length (first.reconstructed ++ others.reconstructed) ≡ length ts
  reconstructed_next next =
      length-append first.reconstructed others.reconstructed
      ∙ omega (arith, count_now, next, length-take frame_samples ts, length-drop frame_samples ts)

  error_next : others.error ≡ squared_error then others.reconstructed
      → first.error + others.error ≡ squared_error ts (first.reconstructed ++ others.reconstructed)
  error_next next =
      (λ i. frame_error k now x.history0 x.history1 b i + next i)
      ∙ sym (squared_append now then first.reconstructed others.reconstructed (sym count_now))
      ∙ ap (λ (l : List ℤ). squared_error l (first.reconstructed ++ others.reconstructed)) (take-append-drop frame_samples ts)

module _ (k : List ℤ) where
  pub length_encoded : (n : ℕ) (ts : List ℤ) (x : AdpcmContext) → Count ts n
      → length (encoded_from n k ts x).bytes ≡ size_of (length ts)
  unfolding encoded_from
  length_encoded zero ts x p = let e : length ts ≡ 0 = omega (arith, p.most) in sym (ap size_of e ∙ size_none)
  length_encoded (suc n) ts x p = size_next k n ts x p (length_encoded n (drop frame_samples ts) _ (count_next ts n p))

  pub reconstructed_encoded : (n : ℕ) (ts : List ℤ) (x : AdpcmContext) → Count ts n
      → length (encoded_from n k ts x).reconstructed ≡ length ts
  unfolding encoded_from
  reconstructed_encoded zero ts x p = omega (arith, p.most)
  reconstructed_encoded (suc n) ts x p =
      reconstructed_next k n ts x (reconstructed_encoded n (drop frame_samples ts) _ (count_next ts n p))

  -- the sum is that of the squared differences from what the decoder gives
  pub error_encoded : (n : ℕ) (ts : List ℤ) (x : AdpcmContext) → Count ts n
      → (encoded_from n k ts x).error ≡ squared_error ts (encoded_from n k ts x).reconstructed
  unfolding encoded_from
  error_encoded zero ts x p = none ts (omega (arith, p.most))
  error_encoded (suc n) ts x p = error_next k n ts x (error_encoded n (drop frame_samples ts) _ (count_next ts n p))
