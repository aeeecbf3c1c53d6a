-- The decoder gives back exactly the samples that the encoder predicted, and the context that it left. Assumes nothing.
use Prim.Native.Nat.{ℕ, zero, suc, ◌+◌, ◌*◌, ◌/◌, ◌≤◌, ◌<◌}
use mathlib.Core.Path.{◌≡◌, refl, sym, ap, ◌∙◌, subst}
use mathlib.Core.List.{List, [], ◌++◌, append_assoc}
use native.Mathlib.Omega.{arith}
use lib.IntN.{ℤ}
use lib.ListN.{length, take, drop, length-append, length-take, length-drop}
use Rattle.adpcm.specs.Places.{nibble_of}
use Rattle.adpcm.specs.Decode.{Run, run_from, run_of}
use Rattle.adpcm.proofs.Frames.{joined, split}
use Rattle.adpcm.specs.declared.context.AdpcmContext.{AdpcmContext}
use Rattle.trial.specs.Trial.{frame_samples, kept_of}
use Rattle.encoder.specs.Encode.{Encoded, frame_of, encoded_from, encoded_of}
use Rattle.encoder.proofs.FrameDecoded.{frame_run}
use Rattle.encoder.proofs.Sizes.{length_frame_with, frame_reconstructed, Count, count_of, count_next}

run_zero : (s : List ℕ) (k : List ℤ) (n m : ℕ) (x : AdpcmContext) → n ≡ 0 → run_from s 0 k n m x ≡ record { samples = []; context = x }
unfolding run_from
run_zero s k n m x e = ap (λ (j : ℕ). run_from s 0 k j m x) e

-- what decoding an encoding should give
abbrev given : Encoded → Run
given e = record { samples = e.reconstructed; context = e.context }

-- n frames of the samples ts, behind f frames in the bytes p and before the bytes more, decode to what is given
abbrev GivesBack : ℕ → List ℤ → List ℕ → List ℕ → ℕ → List ℤ → AdpcmContext → Type 0
GivesBack n k p more f ts x =
    let e = encoded_from n k ts x in run_from (p ++ (e.bytes ++ more)) 0 k (length ts) (frame_samples * f) x ≡ given e

AllGiveBack : ℕ → Type 0
AllGiveBack n = (k : List ℤ) (p more : List ℕ) (f : ℕ) (ts : List ℤ) (x : AdpcmContext) → length p ≡ 8 * f → Count ts n
    → GivesBack n k p more f ts x

-- one frame, and n frames after it
module _ (n : ℕ) (k : List ℤ) (p more : List ℕ) (f : ℕ) (ts : List ℤ) (x : AdpcmContext)
    (place : length p ≡ 8 * f) (count : Count ts (suc n)) where
  abbrev now : List ℤ
  now = take frame_samples ts

  abbrev then : List ℤ
  then = drop frame_samples ts

  abbrev b : ℕ
  b = kept_of k now x.history0 x.history1

  abbrev e : Encoded
  e = frame_of k now x

  abbrev g : Encoded
  g = encoded_from n k then e.context

  abbrev bytes : List ℕ
  bytes = p ++ (e.bytes ++ (g.bytes ++ more))

  some : 0 < length now
  some = omega (arith, length-take frame_samples ts, count.last)

  few : length now ≤ frame_samples
  few = omega (arith, length-take frame_samples ts)

  both : length ts ≡ length now + length then
  both = omega (arith, length-take frame_samples ts, length-drop frame_samples ts)

  this : run_from bytes 0 k (length now) (frame_samples * f) x ≡ given e
  this = frame_run k p (g.bytes ++ more) f b now x place some few

  -- the frames after this one, of which there are none behind a short one
  those : (m : ℕ) → m ≡ n → AllGiveBack m → run_from bytes 0 k (length then) (frame_samples * f + length now) e.context ≡ given g
  unfolding AllGiveBack encoded_from
  those zero z w =
      let none : length then ≡ 0 = omega (arith, length-drop frame_samples ts, count.most) in
      run_zero bytes k (length then) (frame_samples * f + length now) e.context none
      ∙ ap (λ (j : ℕ). given (encoded_from j k then e.context)) z
  those (suc m) z w =
      let full : length now ≡ frame_samples = omega (arith, length-take frame_samples ts, count.last) in
      let long = length_frame_with k now x.history0 x.history1 b in
      let next : length (p ++ e.bytes) ≡ 8 * (f + 1) = length-append p e.bytes ∙ omega (arith, long) in
      let at : frame_samples * f + length now ≡ frame_samples * (f + 1) = omega arith in
      let left : Count then (suc m) = subst (Count then) (sym z) (count_next ts n count) in
      (λ i. run_from (sym (append_assoc p e.bytes (g.bytes ++ more)) i) 0 k (length then) (at i) e.context)
      ∙ subst (λ (j : ℕ). GivesBack j k (p ++ e.bytes) more (f + 1) then e.context) z
      (w k (p ++ e.bytes) more (f + 1) then e.context next left)

  all_by : AllGiveBack n → GivesBack (suc n) k p more f ts x
  unfolding encoded_from
  all_by w =
      let long : length (run_from bytes 0 k (length now) (frame_samples * f) x).samples ≡ length now =
      ap (λ (r : Run). length r.samples) this ∙ frame_reconstructed k now x.history0 x.history1 b in
      (λ i. run_from (p ++ append_assoc e.bytes g.bytes more i) 0 k (both i) (frame_samples * f) x)
      ∙ split bytes 0 k (length now) (length then) (frame_samples * f) x long
      ∙ (λ i. joined (this i) (run_from bytes 0 k (length then) (frame_samples * f + length now) (this i).context))
      ∙ ap (joined (given e)) (those n refl w)

all : (n : ℕ) → AllGiveBack n
unfolding AllGiveBack encoded_from
all zero k p more f ts x place count = run_zero (p ++ ([] ++ more)) k (length ts) (frame_samples * f) x (omega (arith, count.most))
all (suc n) k p more f ts x place count = all_by n k p more f ts x place count (all n)

-- from sample 0 on and given what the encoder wrote, with anything behind it, the decoder gives the samples that the encoder predicted, and
-- its context
pub decoded : (k ts : List ℤ) (x : AdpcmContext) (more : List ℕ)
    → run_of ((encoded_of k ts x).bytes ++ more) 0 (length ts) k x
    ≡ record { samples = (encoded_of k ts x).reconstructed; context = (encoded_of k ts x).context }
unfolding nibble_of AllGiveBack
decoded k ts x more = all ((length ts + 13) / 14) k [] more 0 ts x refl (count_of ts)
