-- Sends computed: a gain that goes from 0 to 1 over two samples, and both gains 0 beside a NaN. Assumes nothing.
use Rattle.std.specs.Prelude.{◌≡◌, false, [], ◌∷◌, negsuc, refl}
use Rattle.std.specs.Float.{nan, fin}
use Rattle.std.specs.Float.Ieee.{eq, add, sum, sub, neg, mul, div, of_int}
use Rattle.floats.specs.Defs.{zero32, one}
use Rattle.rows.specs.Rows.{put, part}
use Rattle.gain.specs.Gain.{step_of, mixed, mix_into}

-- row 1 of two rows of two: 0 + 1 × 0 and 1 + 1 × 0.5
pub half_way : mix_into (one ∷ one ∷ zero32 ∷ one ∷ []) 1 2 (one ∷ one ∷ []) zero32 one ≡ one ∷ one ∷ zero32 ∷ fin false 3 (negsuc 0) ∷ []
unfolding mix_into step_of mixed put part eq add sum sub neg mul div of_int
half_way = refl

pub nothing_added : mix_into (one ∷ []) 0 1 (nan ∷ []) zero32 zero32 ≡ one ∷ []
unfolding mix_into eq
nothing_added = refl
