-- The header of a DSP file: the values that its bytes are, and the bytes of the values, in the same sequence. Definitions only.
use Rattle.std.specs.Prelude.{ℕ, ◌+◌, ◌*◌, List, ◌++◌, ℤ, pos, get_or}
use Rattle.std.specs.Int.{w16}
use Rattle.std.proofs.Common.{to_z, of_z}
use Rattle.rows.specs.Tables.{table, joined}
use Rattle.adpcm.specs.declared.context.AdpcmContext.{AdpcmContext}
use Rattle.dsp_header.specs.Big.{big, big_bytes}
use Rattle.dsp_header.specs.declared.DspHeader.{DspHeader}

-- the bytes that a header takes
abbrev pub header_size : ℕ
header_size = 0x60

-- ---- the values

-- a number of 16 bits, signed
unfoldable pub signed_at : List ℕ → ℕ → ℤ
signed_at d o = to_z w16 (big 2 d o)

unfoldable pub coefficients_at : List ℕ → ℕ → List ℤ
coefficients_at d o = table 16 (λ k. signed_at d (o + k * 2))

-- a frame's header, then the later and the earlier of the two samples before it
unfoldable pub context_at : List ℕ → ℕ → AdpcmContext
context_at d o = record { pred_scale = big 2 d o; history0 = signed_at d (o + 2); history1 = signed_at d (o + 4) }

unfoldable pub header_of : List ℕ → DspHeader
header_of file = record {
  samples = big 4 file 0x00;
  nibbles = big 4 file 0x04;
  rate = big 4 file 0x08;
  loop_flag = big 2 file 0x0c;
  format = big 2 file 0x0e;
  loop_start = big 4 file 0x10;
  loop_end = big 4 file 0x14;
  address = big 4 file 0x18;
  coefficients = coefficients_at file 0x1c;
  gain = big 2 file 0x3c;
  start_context = context_at file 0x3e;
  loop_context = context_at file 0x44;
}

-- the padding behind them, as one number
unfoldable pub padding_of : List ℕ → ℕ
padding_of file = big 22 file 0x4a

-- ---- the bytes

unfoldable pub signed_bytes : ℤ → List ℕ
signed_bytes z = big_bytes 2 (of_z w16 z)

unfoldable pub coefficient_bytes : List ℤ → List ℕ
coefficient_bytes c = joined 16 (λ k. signed_bytes (get_or c k (pos 0)))

unfoldable pub context_bytes : AdpcmContext → List ℕ
context_bytes x = big_bytes 2 x.pred_scale ++ signed_bytes x.history0 ++ signed_bytes x.history1

-- three numbers of four bytes
unfoldable pub three_bytes : ℕ → ℕ → ℕ → List ℕ
three_bytes a b c = big_bytes 4 a ++ big_bytes 4 b ++ big_bytes 4 c

-- up to the coefficients
unfoldable pub front_bytes : DspHeader → List ℕ
front_bytes h =
    three_bytes h.samples h.nibbles h.rate
    ++ big_bytes 2 h.loop_flag
    ++ big_bytes 2 h.format
    ++ three_bytes h.loop_start h.loop_end h.address

-- from the coefficients on, with the padding
unfoldable pub back_bytes : DspHeader → List ℕ
back_bytes h =
    coefficient_bytes h.coefficients
    ++ big_bytes 2 h.gain
    ++ context_bytes h.start_context
    ++ context_bytes h.loop_context
    ++ big_bytes 22 0

unfoldable pub header_bytes : DspHeader → List ℕ
header_bytes h = front_bytes h ++ back_bytes h
