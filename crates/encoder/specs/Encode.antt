-- Samples encoded frame by frame: bytes, what they decode to, the sum of squared differences, and the context that is left.
-- Definitions only.
use Rattle.std.specs.Prelude.{ℕ, zero, suc, ◌+◌, ◌*◌, ◌-◌, ◌/◌, ◌%◌, ◌^◌, min, List, [], ◌∷◌, ◌++◌, ℤ, length, take, drop}
use Rattle.adpcm.specs.declared.context.AdpcmContext.{AdpcmContext}
use Rattle.trial.specs.Trial.{frame_samples, pair_first, pair_second, nibbles_of, reconstructed_of, error_of, kept_of}

-- two nibbles to a byte, the earlier one high; beside a last one alone stands 0
unfoldable pub packed : List ℕ → List ℕ
packed [] = []
packed (v ∷ []) = (v * 16) ∷ []
packed (v ∷ (w ∷ vs)) = (v * 16 + w) ∷ packed vs

-- the context after the samples ys of a frame with the header b
unfoldable pub context_after : ℕ → List ℤ → ℤ → ℤ → AdpcmContext
context_after b [] h0 h1 = record { pred_scale = b; history0 = h0; history1 = h1 }
context_after b (y ∷ ys) h0 h1 = context_after b ys y h0

-- an encoding: its bytes, the samples that they decode to, the sum of squared differences, and the context after them
pub record Encoded : Type 0 where
  pub bytes : List ℕ
  pub reconstructed : List ℤ
  pub error : ℕ
  pub context : AdpcmContext

-- a frame of the samples ts with the header b
unfoldable pub frame_with : List ℤ → List ℤ → ℤ → ℤ → ℕ → Encoded
unfolding packed nibbles_of reconstructed_of error_of context_after
frame_with k ts h0 h1 b = record {
  bytes = b ∷ packed (nibbles_of (b % 16) (pair_first k b) (pair_second k b) ts h0 h1);
  reconstructed = reconstructed_of (b % 16) (pair_first k b) (pair_second k b) ts h0 h1;
  error = error_of k ts h0 h1 b;
  context = context_after b (reconstructed_of (b % 16) (pair_first k b) (pair_second k b) ts h0 h1) h0 h1;
}

-- and with the header that is kept for it
abbrev pub frame_of : List ℤ → List ℤ → AdpcmContext → Encoded
frame_of k ts x = frame_with k ts x.history0 x.history1 (kept_of k ts x.history0 x.history1)

-- one encoding after the other, from the context that it leaves
abbrev pub followed_by : Encoded → (AdpcmContext → Encoded) → Encoded
followed_by e f = record {
  bytes = e.bytes ++ (f e.context).bytes;
  reconstructed = e.reconstructed ++ (f e.context).reconstructed;
  error = e.error + (f e.context).error;
  context = (f e.context).context;
}

-- n frames
unfoldable pub encoded_from : ℕ → List ℤ → List ℤ → AdpcmContext → Encoded
unfolding frame_with kept_of
encoded_from zero k ts x = record { bytes = []; reconstructed = []; error = 0; context = x }
encoded_from (suc n) k ts x = followed_by (frame_of k (take frame_samples ts) x) (encoded_from n k (drop frame_samples ts))

-- as many frames as the samples take; the last may be short
abbrev pub encoded_of : List ℤ → List ℤ → AdpcmContext → Encoded
encoded_of k ts x = encoded_from ((length ts + (frame_samples - 1)) / frame_samples) k ts x

-- a sum that is held at 2^64 - 1
abbrev pub saturated : ℕ → ℕ
saturated n = min (2 ^ 64 - 1) n
