-- Computed encodings, with every header and every nibble tried. Assumes nothing.
use Prim.Native.Nat.{ℕ}
use mathlib.Core.Path.{◌≡◌, refl}
use mathlib.Core.List.{List, [], ◌∷◌, map}
use lib.IntN.{ℤ, pos, negsuc}
use Rattle.adpcm.specs.Places.{nibble_of, size_of}
use Rattle.adpcm.specs.Step.{signed4, clamp_z, step_of}
use Rattle.adpcm.specs.declared.context.AdpcmContext.{AdpcmContext}
use Rattle.nearest.specs.Least.{better, least_of}
use Rattle.nearest.specs.Nearest.{difference_of, difference_at, nearest_of}
use Rattle.trial.specs.Trial.{squared_error, nearest_sample, nibbles_of, reconstructed_of, error_of, kept_of}
use Rattle.encoder.specs.Encode.{packed, context_after, frame_with, encoded_from}
use Rattle.encoder.specs.Answer.{encode_call}

abbrev context : ℕ → ℤ → ℤ → AdpcmContext
context header h0 h1 = record { pred_scale = header; history0 = h0; history1 = h1 }

abbrev low : ℤ
low = negsuc 32767

-- ---- one frame of two samples

-- predictor 0 takes nothing of the last two samples, 1 the last one, and 2 goes on in a straight line; the others take nothing
abbrev pairs : List ℤ
pairs = pos 0 ∷ (pos 0 ∷ (pos 2048 ∷ (pos 0 ∷ (pos 4096 ∷ (negsuc 2047 ∷ [])))))

abbrev line : List ℤ
line = pos 1003 ∷ (pos 2011 ∷ [])

-- after 0 and 500: predictor 2, scale 7, nibbles 0 and 4, which decode to 1000 and 2012: 3 and 1 off
pub two_samples :
    encode_call line pairs (context 0 (pos 500) (pos 0)) (0xaa ∷ (0xaa ∷ (0xaa ∷ [])))
    ≡ record { number = 0; size = 2; context = context 0x27 (pos 2012) (pos 1000); error = 10; output = 0x27 ∷ (0x04 ∷ (0xaa ∷ [])) }
unfolding encode_call encoded_from frame_with context_after packed kept_of error_of reconstructed_of nibbles_of nearest_sample squared_error nearest_of
    difference_at difference_of least_of better step_of clamp_z signed4 size_of nibble_of
two_samples = refl

-- scales 8 and 9 have the same sum, and come later
pub two_tied : map (error_of pairs line (pos 500) (pos 0)) (0x26 ∷ (0x27 ∷ (0x28 ∷ (0x29 ∷ [])))) ≡ 3978 ∷ (10 ∷ (10 ∷ (10 ∷ [])))
unfolding error_of reconstructed_of nearest_sample squared_error nearest_of difference_at difference_of least_of better step_of clamp_z signed4
two_tied = refl

-- an output of one byte is too short, and stays
pub two_refused :
    encode_call line pairs (context 0 (pos 500) (pos 0)) (0xaa ∷ [])
    ≡ record { number = 15; size = 0; context = context 0 (pos 0) (pos 0); error = 0; output = 0xaa ∷ [] }
unfolding encode_call size_of nibble_of
two_refused = refl

-- ---- the lowest sample again and again

-- after -32768, with the pair 2048, 0 and scale 0, the nibbles -8 to 0 all decode to -32768, and 1 to -32767
pub flat_nibbles :
    map (λ (v : ℕ). step_of v 0 (pos 2048) (pos 0) low low) (8 ∷ (15 ∷ (0 ∷ (1 ∷ [])))) ≡ low ∷ (low ∷ (low ∷ (negsuc 32766 ∷ [])))
unfolding step_of clamp_z signed4
flat_nibbles = refl

-- -8 is written
pub flat :
    encode_call (low ∷ []) (pos 2048 ∷ (pos 0 ∷ [])) (context 0x51 low low) (0 ∷ (0 ∷ []))
    ≡ record { number = 0; size = 2; context = context 0 low low; error = 0; output = 0 ∷ (0x80 ∷ []) }
unfolding encode_call encoded_from frame_with context_after packed kept_of error_of reconstructed_of nibbles_of nearest_sample squared_error nearest_of
    difference_at difference_of least_of better step_of clamp_z signed4 size_of nibble_of
flat = refl

-- ---- a sample midway between two levels

-- nibbles 0 and 1 of scale 2 decode to 0 and 4, both 2 off; the lower is written
pub midway : nearest_of (pos 2) 2 (pos 0) (pos 0) (pos 0) (pos 0) ≡ 0
unfolding nearest_of difference_at difference_of least_of better step_of clamp_z signed4
midway = refl

-- ---- no samples

-- no byte is written, and the context stays as it was, its header too
pub no_samples_lem :
    encode_call [] pairs (context 0xffff (pos 7) (negsuc 0)) (0xaa ∷ [])
    ≡ record { number = 0; size = 0; context = context 0xffff (pos 7) (negsuc 0); error = 0; output = 0xaa ∷ [] }
unfolding encode_call encoded_from size_of nibble_of
no_samples_lem = refl
