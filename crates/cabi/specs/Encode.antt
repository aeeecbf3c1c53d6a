-- The answer of `jeqlluna_encode_adpcm` as that of `encoder::encode_adpcm`. Definitions only.
use Rattle.std.specs.Prelude.{ℕ, List, ℤ, pos, Result, Ok, Err}
use Rattle.encoder.specs.declared.encode.EncodeError.{EncodeError}
use Rattle.encoder.specs.declared.frame.Encoding.{Encoding}
use Rattle.encoder.specs.Answer.{EncodeOutcome, number_of}
use Rattle.cabi.specs.Decode.{context_in}
use Rattle.cabi.specs.declared.encode.JeqllunaEncoded.{JeqllunaEncoded}

-- an answer with the output as the call left it
abbrev pub encode_left : JeqllunaEncoded → List ℕ → EncodeOutcome
encode_left r out = record { number = r.number; size = r.size; context = context_in r.context; error = r.error; output = out }

-- an answer of these numbers
abbrev pub encoded_as : ℕ → ℕ → ℕ → ℤ → ℤ → ℕ → JeqllunaEncoded
encoded_as n size p h0 h1 e =
    record { number = n; size = size; context = record { pred_scale = p; history0 = h0; history1 = h1 }; error = e }

-- an answer in numbers
abbrev pub encode_told : Result (ℕ × Encoding) EncodeError → JeqllunaEncoded
encode_told (Ok a) = encoded_as 0 a.0 a.1.context.pred_scale a.1.context.history0 a.1.context.history1 a.1.error
encode_told (Err e) = encoded_as (number_of e) 0 0 (pos 0) (pos 0) 0
