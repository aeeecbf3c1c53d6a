-- A header computed both ways: sixteen different coefficients, eight of them negative, and a negative history. Assumes nothing.
use Prim.Native.Nat.{ℕ}
use mathlib.Core.List.{List, [], ◌∷◌}
use mathlib.Core.Path.{◌≡◌, refl}
use lib.IntN.{pos, negsuc}
use Rattle.rows.specs.Tables.{table, joined}
use Rattle.dsp_header.specs.declared.DspHeader.{DspHeader}
use Rattle.dsp_header.specs.Big.{big, big_bytes}
use Rattle.dsp_header.specs.Header.{signed_at, coefficients_at, context_at, header_of}
use Rattle.dsp_header.specs.Header.{signed_bytes, coefficient_bytes, context_bytes, three_bytes, front_bytes, back_bytes, header_bytes}

abbrev bytes : List ℕ
bytes =
    0x00 ∷ 0x01 ∷ 0x23 ∷ 0x45 ∷ 0x00 ∷ 0x01 ∷ 0x49 ∷ 0x9b ∷ 0x00 ∷ 0x00 ∷ 0x7d ∷ 0x00 ∷ 0x00 ∷ 0x01 ∷ 0x00 ∷ 0x00 ∷
    0x00 ∷ 0x00 ∷ 0x00 ∷ 0x12 ∷ 0x00 ∷ 0x01 ∷ 0x49 ∷ 0x9a ∷ 0x00 ∷ 0x00 ∷ 0x00 ∷ 0x02 ∷ 0x00 ∷ 0x01 ∷ 0xff ∷ 0xfe ∷
    0x01 ∷ 0x2c ∷ 0xfe ∷ 0x70 ∷ 0x13 ∷ 0x88 ∷ 0xe8 ∷ 0x90 ∷ 0x08 ∷ 0x00 ∷ 0xf7 ∷ 0xff ∷ 0x0e ∷ 0xc4 ∷ 0xf8 ∷ 0xe4 ∷
    0x30 ∷ 0x39 ∷ 0xcf ∷ 0xc6 ∷ 0x00 ∷ 0xff ∷ 0xff ∷ 0x00 ∷ 0x7f ∷ 0xff ∷ 0x80 ∷ 0x00 ∷ 0x00 ∷ 0x00 ∷ 0x00 ∷ 0x17 ∷
    0x00 ∷ 0x00 ∷ 0x00 ∷ 0x00 ∷ 0x00 ∷ 0x25 ∷ 0xf1 ∷ 0x17 ∷ 0xf2 ∷ 0x9e ∷ 0x00 ∷ 0x00 ∷ 0x00 ∷ 0x00 ∷ 0x00 ∷ 0x00 ∷
    0x00 ∷ 0x00 ∷ 0x00 ∷ 0x00 ∷ 0x00 ∷ 0x00 ∷ 0x00 ∷ 0x00 ∷ 0x00 ∷ 0x00 ∷ 0x00 ∷ 0x00 ∷ 0x00 ∷ 0x00 ∷ 0x00 ∷ 0x00 ∷ []

abbrev header : DspHeader
header = record {
  samples = 74565;
  nibbles = 84379;
  rate = 32000;
  loop_flag = 1;
  format = 0;
  loop_start = 18;
  loop_end = 84378;
  address = 2;
  coefficients =
      pos 1 ∷ negsuc 1 ∷ pos 300 ∷ negsuc 399 ∷ pos 5000 ∷ negsuc 5999 ∷ pos 2048 ∷ negsuc 2048 ∷
      pos 3780 ∷ negsuc 1819 ∷ pos 12345 ∷ negsuc 12345 ∷ pos 255 ∷ negsuc 255 ∷ pos 32767 ∷ negsuc 32767 ∷ [];
  gain = 0;
  start_context = record { pred_scale = 23; history0 = pos 0; history1 = pos 0 };
  loop_context = record { pred_scale = 37; history0 = negsuc 3816; history1 = negsuc 3425 };
}

pub read : header_of bytes ≡ header
unfolding big signed_at coefficients_at context_at header_of table
read = refl

pub written : header_bytes header ≡ bytes
unfolding big_bytes signed_bytes coefficient_bytes context_bytes three_bytes front_bytes back_bytes header_bytes joined
written = refl
