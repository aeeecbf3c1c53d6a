-- Sinks computed, of rows of one sample. Assumes nothing.
use Rattle.std.specs.Prelude.{◌≡◌, refl, false, true, List, [], ◌∷◌, pos, negsuc, Float, None, Some}
use Rattle.std.specs.Float.{nan, fin}
use Rattle.std.specs.Float.Ieee.{lt, add, sum, mul}
use Rattle.floats.specs.Defs.{zero32, one, minus_one, clamp_of}
use Rattle.sink.specs.Sink.{sample_of, to_unit, frames, factors_of, side, left_of, right_of, input_of, sink_of}

abbrev half : Float
half = fin false 1 (pos 14)

abbrev loud : Float
loud = fin true 1 (pos 16)

-- 16384 is a half, a NaN stays, -65536 is -1
abbrev rows : List Float
rows = half ∷ nan ∷ loud ∷ []

pub two_inputs : sink_of rows 1 0 (0 ∷ 1 ∷ 0 ∷ 0 ∷ 0 ∷ 0 ∷ []) 2 None ≡ fin false 1 (negsuc 0) ∷ nan ∷ []
unfolding sink_of frames left_of right_of input_of sample_of to_unit clamp_of lt mul
two_inputs = refl

-- an input past the buffers is silent
pub past_the_end : sink_of rows 1 0 (2 ∷ 3 ∷ 0 ∷ 0 ∷ 0 ∷ 0 ∷ []) 2 None ≡ minus_one ∷ zero32 ∷ []
unfolding sink_of frames left_of right_of input_of sample_of to_unit clamp_of lt mul
past_the_end = refl

-- six inputs by given factors: 1/2 × 1 + (0 + 1/2 × 1/2) + 0 on the left, 0 + (0 + 1/2 × 1/2) + 1/2 × 1 on the right
pub six_inputs : sink_of rows 1 0 (0 ∷ 3 ∷ 3 ∷ 0 ∷ 3 ∷ 0 ∷ []) 6 (Some (one ∷ one ∷ fin false 1 (negsuc 0) ∷ one ∷ [])) ≡ fin false 3 (negsuc 1) ∷ fin false 3 (negsuc 1) ∷ []
unfolding sink_of frames left_of right_of input_of sample_of factors_of side to_unit clamp_of lt add sum mul
six_inputs = refl
