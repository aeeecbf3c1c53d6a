-- A recording in two pieces, the first of whole frames, is encoded as in one. Assumes nothing.
use Prim.Native.Nat.{ℕ, zero, suc, ◌+◌, ◌*◌, ◌/◌}
use mathlib.Core.Path.{◌≡◌, sym, ap, ◌∙◌}
use mathlib.Core.List.{List, [], ◌∷◌, ◌++◌, append_assoc}
use native.Mathlib.Nat.{zero-add, add_assoc, suc-add}
use native.Mathlib.Omega.{arith}
use lib.IntN.{ℤ}
use lib.ListN.{length, take, drop, length-append, length-drop}
use lib.Seq.{take-append-le, drop-append-le}
use Rattle.adpcm.specs.declared.context.AdpcmContext.{AdpcmContext}
use Rattle.trial.specs.Trial.{frame_samples}
use Rattle.encoder.specs.Encode.{Encoded, frame_of, followed_by, encoded_from, encoded_of}

-- one encoding after the other
abbrev chained : Encoded → Encoded → Encoded
chained e f = record {
  bytes = e.bytes ++ f.bytes;
  reconstructed = e.reconstructed ++ f.reconstructed;
  error = e.error + f.error;
  context = f.context;
}

chained_assoc : (e f g : Encoded) → chained e (chained f g) ≡ chained (chained e f) g
chained_assoc e f g = λ i. record {
  bytes = sym (append_assoc e.bytes f.bytes g.bytes) i;
  reconstructed = sym (append_assoc e.reconstructed f.reconstructed g.reconstructed) i;
  error = sym (add_assoc e.error f.error g.error) i;
  context = g.context;
}

chained_none : (x : AdpcmContext) (g : Encoded) → g ≡ chained (record { bytes = []; reconstructed = []; error = 0; context = x }) g
chained_none x g = λ i. record {
  bytes = g.bytes;
  reconstructed = g.reconstructed;
  error = sym (zero-add g.error) i;
  context = g.context;
}

module _ (k us : List ℤ) where
  pieces_from : (m n : ℕ) (ts : List ℤ) (x : AdpcmContext) → length ts ≡ frame_samples * m
      → encoded_from (m + n) k (ts ++ us) x ≡ followed_by (encoded_from m k ts x) (encoded_from n k us)
  unfolding encoded_from
  pieces_from zero n (t ∷ ts) x e = absurd (omega arith)
  pieces_from zero n [] x e = ap (λ (j : ℕ). encoded_from j k us x) (zero-add n) ∙ chained_none x (encoded_from n k us x)
  pieces_from (suc m) n ts x e =
      let f = frame_of k (take frame_samples ts) x in
      let then = drop frame_samples ts in
      let now : take frame_samples (ts ++ us) ≡ take frame_samples ts = take-append-le frame_samples ts us (omega arith) in
      let rest : drop frame_samples (ts ++ us) ≡ then ++ us = drop-append-le frame_samples ts us (omega arith) in
      let left : length then ≡ frame_samples * m = length-drop frame_samples ts ∙ omega arith in
      let g = encoded_from m k then f.context in
      ap (λ (j : ℕ). encoded_from j k (ts ++ us) x) (suc-add m n)
      ∙ (λ i. followed_by (frame_of k (now i) x) (encoded_from (m + n) k (rest i)))
      ∙ ap (chained f) (pieces_from m n then f.context left)
      ∙ chained_assoc f g (encoded_from n k us g.context)

  -- the second piece begins with the context that the first leaves
  pub encoded_pieces : (m : ℕ) (ts : List ℤ) (x : AdpcmContext) → length ts ≡ frame_samples * m
      → encoded_of k (ts ++ us) x ≡ followed_by (encoded_of k ts x) (encoded_of k us)
  encoded_pieces m ts x e =
      let n = (length us + 13) / 14 in
      let both : (length (ts ++ us) + 13) / 14 ≡ m + n = omega (arith, length-append ts us) in
      let own : m ≡ (length ts + 13) / 14 = omega arith in
      ap (λ (j : ℕ). encoded_from j k (ts ++ us) x) both
      ∙ pieces_from m n ts x e
      ∙ ap (λ (j : ℕ). followed_by (encoded_from j k ts x) (encoded_from n k us)) own
