-- What the code of a frame promises. Assumes nothing.
use Prim.Native.Nat.{ℕ, suc, ◌-◌, ◌%◌, ◌<◌}
use mathlib.Core.Path.{◌≡◌, ap, ◌∙◌}
use mathlib.Core.List.{List, [], ◌∷◌, ◌++◌, append-nil}
use native.Mathlib.Omega.{arith}
use lib.IntN.{ℤ}
use lib.ListN.{length, take, drop, set}
use lib.Seq.{drop-length}
use Rattle.adpcm.specs.declared.context.AdpcmContext.{AdpcmContext}
use Rattle.trial.specs.Kept.{Keeps}
use Rattle.trial.specs.Trial.{pair_first, pair_second}
use Rattle.encoder.specs.Encode.{context_after, frame_with}
use Rattle.encoder.specs.Frame.{bytes_for, context_for, Puts, Frames}

-- a frame's bytes, the header and the nibbles lent from the second byte on
pub header_put : (s new : List ℕ) (h : ℕ) → 0 < length s
    → set (take 1 s ++ (new ++ drop (length s - 1) (drop 1 s))) 0 h ≡ h ∷ new
header_put [] new h l = absurd (omega arith)
header_put (x ∷ xs) new h l =
    let e : suc (length xs) - 1 ≡ length xs = omega arith in
    ap (λ (n : ℕ). h ∷ (new ++ drop n xs)) e
    ∙ ap (λ (l : List ℕ). h ∷ (new ++ l)) (drop-length xs)
    ∙ ap (λ (l : List ℕ). h ∷ l) (append-nil new)

-- the kept header, its sum, and the nibbles that were put
pub frames_are : (k ts : List ℤ) (x : AdpcmContext) (out new : List ℕ) (a b : ℤ) (header error : ℕ)
    → Keeps k ts x.history0 x.history1 header error
    → Puts (header % 16) (pair_first k header) (pair_second k header) ts x.history0 x.history1 new a b
    → out ≡ header ∷ new
    → Frames k ts x out (record { pred_scale = header; history0 = a; history1 = b }) error
unfolding frame_with context_after
frames_are k ts x out new a b header error p q e =
    let h = x.history0 in
    let g = x.history1 in
    record {
      bytes = e ∙ ap (λ (l : List ℕ). header ∷ l) q.bytes ∙ ap (λ (n : ℕ). (frame_with k ts h g n).bytes) p.header_is;
      context = q.left header ∙ ap (λ (n : ℕ). (frame_with k ts h g n).context) p.header_is;
      error_is = p.error_is;
    }

-- the same of equal numbers
pub puts_by : (s : ℕ) {c c' d d' : ℤ} (ts : List ℤ) {h0 h0' h1 h1' : ℤ} {out : List ℕ} {a a' b b' : ℤ}
    → c ≡ c' → d ≡ d' → h0 ≡ h0' → h1 ≡ h1' → a' ≡ a → b' ≡ b
    → Puts s c d ts h0 h1 out a b → Puts s c' d' ts h0' h1' out a' b'
puts_by s ts ec ed e0 e1 ea eb p = record {
  bytes = p.bytes ∙ (λ i. bytes_for s (ec i) (ed i) ts (e0 i) (e1 i));
  left = λ k. (λ i. context_after k [] (ea i) (eb i)) ∙ p.left k ∙ (λ i. context_for s (ec i) (ed i) k ts (e0 i) (e1 i));
}
