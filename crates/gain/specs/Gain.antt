-- What a gain that moves in equal steps makes of samples, and what a send adds to a row of the mix buffers. Definitions only.
use Rattle.std.specs.Prelude.{ℕ, ◌+◌, ◌*◌, cond, ◌&&◌, List, [], ◌∷◌, length, pos, nat_le, Float}
use Rattle.std.specs.Float.{binary32}
use Rattle.std.specs.Float.Ieee.{eq, add, sub, mul, div, of_int}
use Rattle.floats.specs.Defs.{zero32, one}
use Rattle.rows.specs.Rows.{put, part}

-- how far the gain moves from one of n samples to the next
unfoldable pub step_of : Float → Float → ℕ → Float
step_of from to n = div binary32 (sub binary32 to from) (of_int binary32 (pos n))

-- each sample times the gain v, which grows by `step` after each
unfoldable pub ramped : Float → Float → List Float → List Float
ramped step v [] = []
ramped step v (x ∷ xs) = mul binary32 x v ∷ ramped step (add binary32 v step) xs

-- the same with one gain throughout
unfoldable pub scaled : Float → List Float → List Float
scaled v [] = []
scaled v (x ∷ xs) = mul binary32 x v ∷ scaled v xs

-- each of ds and, where there is one beside it, the sample of ss times the gain v, which grows by `step` after each
unfoldable pub mixed : Float → Float → List Float → List Float → List Float
mixed step v [] ss = []
mixed step v (d ∷ ds) [] = d ∷ ds
mixed step v (d ∷ ds) (s ∷ ss) = add binary32 d (mul binary32 s v) ∷ mixed step (add binary32 v step) ds ss

-- the same with one gain throughout
unfoldable pub level : Float → List Float → List Float → List Float
level v [] ss = []
level v (d ∷ ds) [] = d ∷ ds
level v (d ∷ ds) (s ∷ ss) = add binary32 d (mul binary32 s v) ∷ level v ds ss

-- `ramp`: both gains 1 change nothing
unfoldable pub ramp_of : Float → Float → List Float → List Float
ramp_of from to xs = cond (eq from one && eq to one) xs (ramped (step_of from to (length xs)) from xs)

-- `mix_into`: both gains 0 add nothing, nor does a row of n samples that is not inside the buffers
unfoldable pub mix_into : List Float → ℕ → ℕ → List Float → Float → Float → List Float
mix_into buffers buffer n src from to =
    cond (eq from zero32 && eq to zero32) buffers
    (cond (nat_le (buffer * n + n) (length buffers))
    (put buffers (buffer * n) (mixed (step_of from to n) from (part n (buffer * n) buffers) src))
    buffers)
