-- Lengths that a ramp and a send keep, a send that adds nothing, and a gain that its step does not move. Assumes nothing.
use Rattle.std.specs.Prelude.{◌≡◌, ℕ, suc, ◌+◌, ◌*◌, ◌<◌, ◌≤◌, Bool, true, false, cond, ◌&&◌, List, [], ◌∷◌, length, nat_le, Float}
use Rattle.std.proofs.Math.Path.{refl}
use Rattle.std.proofs.Common.{ap, ◌∙◌}
use Rattle.std.specs.Float.{binary32}
use Rattle.std.specs.Float.Ieee.{eq, add}
use borrow.Author.Tests.{le-leb, lt-leb, leb-true}
use Rattle.floats.specs.Defs.{zero32, one}
use Rattle.rows.specs.Rows.{put, part, length_put, length_part}
use Rattle.gain.specs.Gain.{step_of, ramped, scaled, mixed, level, ramp_of, mix_into}

-- ---- a ramp
pub length_ramped : (step v : Float) (xs : List Float) → length (ramped step v xs) ≡ length xs
unfolding ramped
length_ramped step v [] = refl
length_ramped step v (x ∷ xs) = ap suc (length_ramped step (add binary32 v step) xs)

pub length_ramp : (from to : Float) (xs : List Float) → length (ramp_of from to xs) ≡ length xs
unfolding ramp_of
length_ramp from to xs = go (eq from one && eq to one)
  where
    go : (b : Bool) → length (cond b xs (ramped (step_of from to (length xs)) from xs)) ≡ length xs
    go true = refl
    go false = length_ramped (step_of from to (length xs)) from xs

-- ---- a row that is mixed
pub length_mixed : (step v : Float) (ds ss : List Float) → length (mixed step v ds ss) ≡ length ds
unfolding mixed
length_mixed step v [] ss = refl
length_mixed step v (d ∷ ds) [] = refl
length_mixed step v (d ∷ ds) (s ∷ ss) = ap suc (length_mixed step (add binary32 v step) ds ss)

-- ---- a gain that its step does not move stays the same throughout
module _ (step v : Float) (h : add binary32 v step ≡ v) where
  pub scaled_is : (xs : List Float) → scaled v xs ≡ ramped step v xs
  unfolding ramped scaled
  scaled_is [] = refl
  scaled_is (x ∷ xs) = rw (h, scaled_is xs)

  pub level_is : (ds ss : List Float) → level v ds ss ≡ mixed step v ds ss
  unfolding mixed level
  level_is [] ss = refl
  level_is (d ∷ ds) [] = refl
  level_is (d ∷ ds) (s ∷ ss) = rw (h, level_is ds ss)

-- ---- a send
module _ (buffers : List Float) (buffer n : ℕ) (src : List Float) (from to : Float) where
  -- the row that is put
  abbrev pub row_mixed : List Float
  row_mixed = mixed (step_of from to n) from (part n (buffer * n) buffers) src

  pub length_row : buffer * n + n ≤ length buffers → length row_mixed ≡ n
  length_row h = length_mixed (step_of from to n) from (part n (buffer * n) buffers) src ∙ length_part n (buffer * n) buffers h

  -- both gains are 0
  pub mix_into_zero : (eq from zero32 && eq to zero32) ≡ true → mix_into buffers buffer n src from to ≡ buffers
  unfolding mix_into
  mix_into_zero h = rw h

  -- the row is not inside the buffers
  pub mix_into_out : length buffers < buffer * n + n → mix_into buffers buffer n src from to ≡ buffers
  unfolding mix_into
  mix_into_out h = rw (lt-leb (buffer * n + n) (length buffers) h) (go (eq from zero32 && eq to zero32))
    where
      go : (b : Bool) → cond b buffers buffers ≡ buffers
      go true = refl
      go false = refl

  -- a gain is not 0 and the row is inside
  pub mix_into_row : (eq from zero32 && eq to zero32) ≡ false → buffer * n + n ≤ length buffers
      → mix_into buffers buffer n src from to ≡ put buffers (buffer * n) row_mixed
  unfolding mix_into
  mix_into_row g h = rw (g, le-leb (buffer * n + n) (length buffers) h)

  pub length_mix_into : length (mix_into buffers buffer n src from to) ≡ length buffers
  unfolding mix_into
  length_mix_into = go (eq from zero32 && eq to zero32) (nat_le (buffer * n + n) (length buffers)) (leb-true (buffer * n + n) (length buffers))
    where
      go : (a b : Bool) → (b ≡ true → buffer * n + n ≤ length buffers)
          → length (cond a buffers (cond b (put buffers (buffer * n) row_mixed) buffers)) ≡ length buffers
      go true b h = refl
      go false false h = refl
      go false true h = length_put buffers (buffer * n) row_mixed (rw (length_row (h refl)) (h refl))
