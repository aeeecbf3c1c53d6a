-- There are 2 n samples in n frames, and each is in [-1, 1] or a NaN; a NaN stays; frames of samples that agree are the same; with no input
-- all are 0. Assumes nothing.
use Rattle.std.specs.Prelude.{◌≡◌, refl, false, List, [], ◌∷◌, ◌++◌, ℕ, zero, suc, ◌+◌, ◌*◌, ◌<◌, T, negsuc, length, replicate, Float, Option}
use Rattle.std.proofs.Common.{ap, ◌∙◌, arith, length-append}
use Rattle.std.specs.Float.{nan, inf, fin, binary32}
use Rattle.std.specs.Float.Ieee.{is_nan, mul, lt}
use Rattle.std.specs.Float.Ieee.Fits.{and_i, and_l, and_r}
use Rattle.floats.specs.Defs.{zero32, clamp_of}
use Rattle.floats.specs.Bounds.{clamp_unit}
use Rattle.sink.specs.Sink.{to_unit, frames, left_of, right_of, sink_of, in_range, each}

-- a NaN stays a NaN
pub unit_nan : (s : Float) → T (is_nan s) → T (is_nan (to_unit s))
unfolding to_unit clamp_of lt mul is_nan
unit_nan nan h = tt
unit_nan (inf s) h = absurd h
unit_nan (fin s m e) h = absurd h

pub frames_ext : (l l' r r' : ℕ → Float) (n : ℕ) → ((i : ℕ) → i < n → l i ≡ l' i) → ((i : ℕ) → i < n → r i ≡ r' i) → frames l r n ≡ frames l' r' n
unfolding frames
frames_ext l l' r r' zero p q = refl
frames_ext l l' r r' (suc n) p q =
    rw (frames_ext l l' r r' n (λ i h. p i (omega arith)) (λ i h. q i (omega arith)), p n (omega arith), q n (omega arith))

pub length_frames : (l r : ℕ → Float) (n : ℕ) → length (frames l r n) ≡ 2 * n
unfolding frames
length_frames l r zero = refl
length_frames l r (suc n) = length-append (frames l r n) (to_unit (l n) ∷ to_unit (r n) ∷ []) ∙ ap (λ (k : ℕ). k + 2) (length_frames l r n) ∙ omega arith

pub length_sink : (buffers : List Float) (n offset : ℕ) (inputs : List ℕ) (count : ℕ) (downmix : Option (List Float))
    → length (sink_of buffers n offset inputs count downmix) ≡ 2 * n
unfolding sink_of
length_sink buffers n offset inputs count downmix = length_frames _ _ n

-- ---- the range
unit_in : (s : Float) → T (in_range (to_unit s))
unfolding to_unit
unit_in s = clamp_unit (mul binary32 s (fin false 1 (negsuc 14)))

pub each_append : (xs ys : List Float) → T (each xs) → T (each ys) → T (each (xs ++ ys))
each_append [] ys p q = q
each_append (x ∷ xs) ys p q =
    and_i (in_range x) (each (xs ++ ys)) (and_l (in_range x) (each xs) p) (each_append xs ys (and_r (in_range x) (each xs) p) q)

pub frames_in : (l r : ℕ → Float) (n : ℕ) → T (each (frames l r n))
unfolding frames
frames_in l r zero = tt
frames_in l r (suc n) =
    let x = to_unit (l n) in
    let y = to_unit (r n) in
    each_append (frames l r n) (x ∷ y ∷ []) (frames_in l r n)
    (and_i (in_range x) (each (y ∷ [])) (unit_in (l n)) (and_i (in_range y) (each []) (unit_in (r n)) tt))

-- each sample of a sink's frames is in [-1, 1], or a NaN
pub sink_in : (buffers : List Float) (n offset : ℕ) (inputs : List ℕ) (count : ℕ) (downmix : Option (List Float))
    → T (each (sink_of buffers n offset inputs count downmix))
unfolding sink_of
sink_in buffers n offset inputs count downmix = frames_in _ _ n

-- ---- no input
zeros_more : (k : ℕ) (x : Float) → replicate k x ++ (x ∷ x ∷ []) ≡ x ∷ x ∷ replicate k x
zeros_more zero x = refl
zeros_more (suc k) x = ap (λ (xs : List Float). x ∷ xs) (zeros_more k x)

unit_zero : to_unit zero32 ≡ zero32
unfolding to_unit clamp_of mul lt
unit_zero = refl

zero_frames : (n : ℕ) → frames (λ _. zero32) (λ _. zero32) n ≡ replicate (2 * n) zero32
unfolding frames
zero_frames zero = refl
zero_frames (suc n) =
    let e : 2 * suc n ≡ suc (suc (2 * n)) = omega arith in
    rw (zero_frames n, unit_zero, e) (zeros_more (2 * n) zero32)

-- a sink with no input has only zeros
pub sink_none : (buffers : List Float) (n offset : ℕ) (inputs : List ℕ) (downmix : Option (List Float))
    → sink_of buffers n offset inputs 0 downmix ≡ replicate (2 * n) zero32
unfolding sink_of left_of right_of
sink_none buffers n offset inputs downmix = zero_frames n
