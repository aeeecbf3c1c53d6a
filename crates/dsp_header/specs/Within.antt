-- What numbers a list of bytes and a header can hold: everything that a slice and a struct of the code hold. Definitions only.
use Rattle.std.specs.Prelude.{ℕ, ◌^◌, ◌<◌, ◌≡◌, List, pos, length, get_or}
use Rattle.std.specs.Int.{w16}
use Rattle.std.proofs.Common.{SFits}
use Rattle.adpcm.specs.declared.context.AdpcmContext.{AdpcmContext}
use Rattle.dsp_header.specs.declared.DspHeader.{DspHeader}

-- each element is a byte
abbrev pub Bytes : List ℕ → Type 0
Bytes d = (i : ℕ) → get_or d i 0 < 256

pub record WithinContext (x : AdpcmContext) : Type 0 where
  pub header : x.pred_scale < 2 ^ 16
  pub later : SFits w16 x.history0
  pub earlier : SFits w16 x.history1

-- each value is within its width
pub record Within (h : DspHeader) : Type 0 where
  pub samples : h.samples < 2 ^ 32
  pub nibbles : h.nibbles < 2 ^ 32
  pub rate : h.rate < 2 ^ 32
  pub flag : h.loop_flag < 2 ^ 16
  pub format : h.format < 2 ^ 16
  pub loop_start : h.loop_start < 2 ^ 32
  pub loop_end : h.loop_end < 2 ^ 32
  pub address : h.address < 2 ^ 32
  pub sixteen : length h.coefficients ≡ 16
  pub coefficients : (k : ℕ) → SFits w16 (get_or h.coefficients k (pos 0))
  pub gain : h.gain < 2 ^ 16
  pub start : WithinContext h.start_context
  pub loop : WithinContext h.loop_context
