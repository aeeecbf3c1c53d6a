-- The one nibble that can be unused, the low half of the last byte, is 0. Assumes nothing.
use Prim.Native.Nat.{ℕ, zero, suc, ◌+◌, ◌*◌, ◌-◌, ◌/◌, ◌%◌, ◌<◌}
use mathlib.Core.Path.{◌≡◌, sym, ap, ◌∙◌}
use mathlib.Core.List.{List, [], ◌∷◌, ◌++◌, append-nil}
use native.Mathlib.Omega.{arith}
use lib.IntN.{ℤ}
use lib.ListN.{length, take, drop, get_or, length-append, length-take, length-drop}
use lib.Seq.{get_or-append-add}
use Rattle.adpcm.specs.Places.{size_of}
use Rattle.adpcm.specs.declared.context.AdpcmContext.{AdpcmContext}
use Rattle.trial.specs.Trial.{frame_samples, pair_first, pair_second, nibbles_of, kept_of}
use Rattle.trial.proofs.Trial.{length_nibbles}
use Rattle.encoder.specs.Encode.{packed, frame_with, frame_of, encoded_from, encoded_of}
use Rattle.encoder.proofs.Packed.{length_packed}
use Rattle.encoder.proofs.Sizes.{Count, count_of, count_next, length_encoded, length_frame_with}

-- the last byte of some
abbrev last_of : List ℕ → ℕ
last_of s = get_or s (length s - 1) 0

last_cons : (b : ℕ) (s : List ℕ) → 0 < length s → last_of (b ∷ s) ≡ last_of s
last_cons b s h = let e : suc (length s) - 1 ≡ suc (length s - 1) = omega arith in ap (λ (n : ℕ). get_or (b ∷ s) n 0) e

last_append : (s t : List ℕ) → 0 < length t → last_of (s ++ t) ≡ last_of t
last_append s t h =
    let e : length (s ++ t) - 1 ≡ length s + (length t - 1) = omega (arith, length-append s t) in
    ap (λ (n : ℕ). get_or (s ++ t) n 0) e ∙ get_or-append-add s t (length t - 1) 0

packed_odd : (vs : List ℕ) → length vs % 2 ≡ 1 → last_of (packed vs) % 16 ≡ 0
unfolding packed
packed_odd [] h = absurd (omega arith)
packed_odd (v ∷ []) h = omega arith
packed_odd (v ∷ (w ∷ vs)) h =
    let odd : length vs % 2 ≡ 1 = omega arith in
    let some : 0 < length (packed vs) = omega (arith, length_packed vs) in
    ap (λ (n : ℕ). n % 16) (last_cons (v * 16 + w) (packed vs) some) ∙ packed_odd vs odd

-- a last frame with an odd number of samples
frame_odd : (k ts : List ℤ) (h0 h1 : ℤ) (b : ℕ) → length ts % 2 ≡ 1 → last_of (frame_with k ts h0 h1 b).bytes % 16 ≡ 0
unfolding frame_with
frame_odd k ts h0 h1 b h =
    let vs = nibbles_of (b % 16) (pair_first k b) (pair_second k b) ts h0 h1 in
    let long : length vs ≡ length ts = length_nibbles (b % 16) (pair_first k b) (pair_second k b) ts h0 h1 in
    let odd : length vs % 2 ≡ 1 = omega (arith, long) in
    let some : 0 < length (packed vs) = omega (arith, length_packed vs) in
    ap (λ (n : ℕ). n % 16) (last_cons b (packed vs) some) ∙ packed_odd vs odd

module _ (k : List ℤ) where
  -- a frame and those behind it have at least one byte
  some_bytes : (n : ℕ) (ts : List ℤ) (x : AdpcmContext) → 0 < length (encoded_from (suc n) k ts x).bytes
  unfolding encoded_from
  some_bytes n ts x =
      let now = take frame_samples ts in
      let e = frame_of k now x in
      let g = encoded_from n k (drop frame_samples ts) e.context in
      let b = kept_of k now x.history0 x.history1 in
      omega (arith, length-append e.bytes g.bytes, length_frame_with k now x.history0 x.history1 b)

  unused_from : (n : ℕ) (ts : List ℤ) (x : AdpcmContext) → Count ts n → length ts % 2 ≡ 1 → last_of (encoded_from n k ts x).bytes % 16 ≡ 0
  unfolding encoded_from
  unused_from zero ts x p h = absurd (omega (arith, p.most))
  unused_from (suc zero) ts x p h =
      let now = take frame_samples ts in
      let odd : length now % 2 ≡ 1 = omega (arith, length-take frame_samples ts, p.most) in
      let b = kept_of k now x.history0 x.history1 in
      ap (λ (s : List ℕ). last_of s % 16) (append-nil (frame_of k now x).bytes) ∙ frame_odd k now x.history0 x.history1 b odd
  unused_from (suc (suc n)) ts x p h =
      let then = drop frame_samples ts in
      let e = frame_of k (take frame_samples ts) x in
      let odd : length then % 2 ≡ 1 = omega (arith, length-drop frame_samples ts, p.last) in
      ap (λ (b : ℕ). b % 16) (last_append e.bytes (encoded_from (suc n) k then e.context).bytes (some_bytes n then e.context))
      ∙ unused_from (suc n) then e.context (count_next ts (suc n) p) odd

  -- where the samples are odd in number
  pub unused_zero : (ts : List ℤ) (x : AdpcmContext) → length ts % 2 ≡ 1
      → get_or (encoded_of k ts x).bytes (size_of (length ts) - 1) 0 % 16 ≡ 0
  unused_zero ts x h =
      let n = (length ts + 13) / 14 in
      ap (λ (m : ℕ). get_or (encoded_of k ts x).bytes (m - 1) 0 % 16) (sym (length_encoded k n ts x (count_of ts)))
      ∙ unused_from n ts x (count_of ts) h
