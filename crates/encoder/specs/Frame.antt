-- What the functions for one frame give. Definitions only.
use Rattle.std.specs.Prelude.{ℕ, ◌+◌, ◌/◌, ◌≡◌, List, [], ◌∷◌, ℤ}
use Rattle.std.specs.Int.{w16}
use Rattle.std.proofs.Common.{SFits}
use Rattle.adpcm.specs.declared.context.AdpcmContext.{AdpcmContext}
use Rattle.trial.specs.Trial.{nibbles_of, reconstructed_of}
use Rattle.encoder.specs.Encode.{packed, context_after, frame_of}

-- the bytes of a frame of n samples, 1 to 14: a header, and two nibbles to a byte
abbrev pub frame_size : ℕ → ℕ
frame_size n = 1 + (n + 1) / 2

module _ (s : ℕ) (c d : ℤ) where
  -- the bytes for the samples ts, and the context after them with the header b
  abbrev pub bytes_for : List ℤ → ℤ → ℤ → List ℕ
  bytes_for ts h0 h1 = packed (nibbles_of s c d ts h0 h1)

  abbrev pub context_for : ℕ → List ℤ → ℤ → ℤ → AdpcmContext
  context_for b ts h0 h1 = context_after b (reconstructed_of s c d ts h0 h1) h0 h1

  -- the first byte for the samples ts, and what is left for the samples after it
  pub record Packs (ts rest : List ℤ) (h0 h1 : ℤ) (byte : ℕ) (a b : ℤ) : Type 0 where
    pub bytes : bytes_for ts h0 h1 ≡ byte ∷ bytes_for rest a b
    pub left : (k : ℕ) → context_for k ts h0 h1 ≡ context_for k rest a b
    pub fits0 : SFits w16 a
    pub fits1 : SFits w16 b

  -- all bytes for the samples ts, and the last two samples
  pub record Puts (ts : List ℤ) (h0 h1 : ℤ) (out : List ℕ) (a b : ℤ) : Type 0 where
    pub bytes : out ≡ bytes_for ts h0 h1
    pub left : (k : ℕ) → context_after k [] a b ≡ context_for k ts h0 h1

-- the frame of the samples ts
pub record Frames (k ts : List ℤ) (x : AdpcmContext) (out : List ℕ) (y : AdpcmContext) (error : ℕ) : Type 0 where
  pub bytes : out ≡ (frame_of k ts x).bytes
  pub context : y ≡ (frame_of k ts x).context
  pub error_is : error ≡ (frame_of k ts x).error
