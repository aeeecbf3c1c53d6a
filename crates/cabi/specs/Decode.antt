-- The arguments and the answer of `jeqlluna_decode_adpcm` as those of `adpcm::decode_adpcm_checked`. Assumes nothing.
use Rattle.std.specs.Prelude.{List, ◌≡◌, refl, ℕ, Float, ℤ, pos, get_or, Result, Ok, Err}
use Rattle.rows.specs.Tables.{table}
use Rattle.adpcm.specs.declared.context.AdpcmContext.{AdpcmContext}
use Rattle.adpcm.specs.declared.decode.AdpcmError.{AdpcmError}
use Rattle.adpcm.specs.declared.decode.Decoded.{Decoded}
use Rattle.adpcm.specs.Answer.{Outcome, number_of, seen}
use Rattle.cabi.specs.declared.decode.JeqllunaContext.{JeqllunaContext}
use Rattle.cabi.specs.declared.decode.JeqllunaDecoded.{JeqllunaDecoded}

-- the first sixteen coefficients; one past the end is 0
unfoldable pub sixteen_of : List ℤ → List ℤ
unfolding table
sixteen_of k = table 16 (λ (i : ℕ). get_or k i (pos 0))

-- a context as the decoder takes it
abbrev pub context_in : JeqllunaContext → AdpcmContext
context_in x = record { pred_scale = x.pred_scale; history0 = x.history0; history1 = x.history1 }

-- an answer with the output as the call left it
abbrev pub decode_left : JeqllunaDecoded → List Float → Outcome
decode_left r out = record { number = r.number; done = r.done; context = context_in r.context; output = out }

abbrev pub decoded : ℕ → ℕ → ℕ → ℤ → ℤ → JeqllunaDecoded
decoded n done p h0 h1 = record { number = n; done = done; context = record { pred_scale = p; history0 = h0; history1 = h1 } }

-- an answer in numbers
abbrev pub decode_told : Result Decoded AdpcmError → JeqllunaDecoded
decode_told (Ok d) = decoded 0 d.done d.context.pred_scale d.context.history0 d.context.history1
decode_told (Err e) = decoded (number_of e) 0 0 (pos 0) (pos 0)

-- both ways of reading an answer agree
pub told_seen : (a : Result Decoded AdpcmError) (out : List Float) → decode_left (decode_told a) out ≡ seen a out
told_seen (Ok d) out = refl
told_seen (Err e) out = refl
