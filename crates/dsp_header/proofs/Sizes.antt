-- How many bytes the values of a header take. Assumes nothing.
use mathlib.Core.Path.{◌≡◌, refl}
use mathlib.Core.List.{List}
use Prim.Native.Nat.{ℕ, zero, suc, ◌/◌}
use native.Mathlib.Omega.{arith}
use lib.IntN.{ℤ}
use lib.ListN.{length, length-append}
use Rattle.rows.specs.Tables.{joined}
use Rattle.adpcm.specs.declared.context.AdpcmContext.{AdpcmContext}
use Rattle.dsp_header.specs.declared.DspHeader.{DspHeader}
use Rattle.dsp_header.specs.Big.{big_bytes}
use Rattle.dsp_header.specs.Header.{header_size, signed_bytes, coefficient_bytes, context_bytes}
use Rattle.dsp_header.specs.Header.{three_bytes, front_bytes, back_bytes, header_bytes}

pub length_big : (w v : ℕ) → length (big_bytes w v) ≡ w
unfolding big_bytes
length_big zero v = refl
length_big (suc w) v = rw (length-append, length_big w (v / 256)) (omega arith)

pub length_signed : (z : ℤ) → length (signed_bytes z) ≡ 2
unfolding big_bytes signed_bytes
length_signed z = refl

pub length_coefficients : (c : List ℤ) → length (coefficient_bytes c) ≡ 32
unfolding big_bytes signed_bytes coefficient_bytes joined
length_coefficients c = refl

pub length_context : (x : AdpcmContext) → length (context_bytes x) ≡ 6
unfolding big_bytes signed_bytes context_bytes
length_context x = refl

pub length_three : (a b c : ℕ) → length (three_bytes a b c) ≡ 12
unfolding big_bytes three_bytes
length_three a b c = refl

pub length_front : (h : DspHeader) → length (front_bytes h) ≡ 28
unfolding big_bytes three_bytes front_bytes
length_front h = refl

pub length_back : (h : DspHeader) → length (back_bytes h) ≡ 68
unfolding big_bytes signed_bytes coefficient_bytes joined context_bytes back_bytes
length_back h = refl

pub length_header : (h : DspHeader) → length (header_bytes h) ≡ header_size
unfolding header_bytes
length_header h = rw (length-append, length_front h, length_back h)
