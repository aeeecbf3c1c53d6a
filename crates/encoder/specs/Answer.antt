-- The call for an encoding: question 15, and then the encoding. Definitions only.
use Rattle.std.specs.Prelude.{ℕ, ◌≡◌, cond, List, ◌++◌, leb, ℤ, length, drop, Result, Ok, Err}
use Rattle.adpcm.specs.Answer.{none}
use Rattle.adpcm.specs.Places.{size_of}
use Rattle.adpcm.specs.declared.context.AdpcmContext.{AdpcmContext}
use Rattle.encoder.specs.Encode.{Encoded, encoded_of, saturated}
use Rattle.encoder.specs.declared.encode.EncodeError.{EncodeError}
use Rattle.encoder.specs.declared.encode.EncodeError.TheVariants.{ShortOutput}
use Rattle.encoder.specs.declared.frame.Encoding.{Encoding}

-- what an encoding leaves: the output, which is just its bytes, the context, and the sum, held
pub record Encodes (k ts : List ℤ) (x : AdpcmContext) (out : List ℕ) (y : AdpcmContext) (error : ℕ) : Type 0 where
  pub bytes : out ≡ (encoded_of k ts x).bytes
  pub context : y ≡ (encoded_of k ts x).context
  pub error_is : error ≡ saturated (encoded_of k ts x).error

-- what a call leaves: its number, 0 for success, its other results, and the lent output
pub record EncodeOutcome : Type 0 where
  pub number : ℕ
  pub size : ℕ
  pub context : AdpcmContext
  pub error : ℕ
  pub output : List ℕ

-- a refusal: the other results are 0, and no lent memory changes
abbrev pub encode_refused : ℕ → List ℕ → EncodeOutcome
encode_refused n out = record { number = n; size = 0; context = none; error = 0; output = out }

-- the encoding at the front of the output, whose rest stays
abbrev pub encode_wrote : Encoded → List ℕ → EncodeOutcome
encode_wrote e out = record {
  number = 0;
  size = length e.bytes;
  context = e.context;
  error = saturated e.error;
  output = e.bytes ++ drop (length e.bytes) out;
}

unfoldable pub encode_call : List ℤ → List ℤ → AdpcmContext → List ℕ → EncodeOutcome
unfolding size_of
encode_call ts k x out = cond (leb (size_of (length ts)) (length out)) (encode_wrote (encoded_of k ts x) out) (encode_refused 15 out)

-- the number of an error
abbrev pub number_of : EncodeError → ℕ
number_of ShortOutput = 15

-- an answer's number and values, with the output as the call left it
abbrev pub encode_seen : Result (ℕ × Encoding) EncodeError → List ℕ → EncodeOutcome
encode_seen (Ok a) out = record { number = 0; size = a.0; context = a.1.context; error = a.1.error; output = out }
encode_seen (Err e) out = encode_refused (number_of e) out
