-- Lengths that a ramp and a row of gains that is taken keep, and a destination that is configured. Assumes nothing.
use Rattle.std.specs.Prelude.{◌≡◌, Bool, true, false, ◌&&◌, ℕ, ◌+◌, ◌*◌, ◌≤◌, ◌<◌, ltb, get_or, Float}
use Rattle.std.proofs.Math.Path.{refl}
use Rattle.std.proofs.Common.{sym, ◌∙◌, arith, ltb-true}
use mathlib.Core.List.{List}
use Rattle.std.proofs.Math.ListN.{length}
use Rattle.rows.specs.Rows.{part, length_put, length_part}
use Rattle.rows.specs.Folds.{row_fits}
use Rattle.gain.specs.Gain.{ramp_of}
use Rattle.gain.specs.Laws.{length_ramp}
use Rattle.desk_rows.specs.DeskRows.{configured_of}
use Rattle.voice_sends.specs.Sending.{Ids, ramped_row, ramped_rows, taken, taken_over}
use Rattle.rows.specs.Loops.{up_to_keeps}

-- row c of a voice's rows is inside
pub row_inside : (n : ℕ) {channels c : ℕ} (out : List Float) → c < channels → channels * n ≤ length out → c * n + n ≤ length out
row_inside n {channels} {c} out h g = omega (arith, row_fits 0 n c channels out h (omega arith))

-- ---- a ramp

module _ (from to : Float) (n : ℕ) where
  pub length_ramped_part : (c : ℕ) (out : List Float) → c * n + n ≤ length out → length (ramp_of from to (part n (c * n) out)) ≡ n
  length_ramped_part c out h = length_ramp from to (part n (c * n) out) ∙ length_part n (c * n) out h

  pub length_ramped_row : (c : ℕ) (out : List Float) → c * n + n ≤ length out → length (ramped_row from to n c out) ≡ length out
  unfolding ramped_row
  length_ramped_row c out h = length_put out (c * n) _ (rw (length_ramped_part c out h) h)

  -- where the rows are in a list of `size`
  pub ramped_row_keeps : (size channels : ℕ) → channels * n ≤ size → (c : ℕ) (out : List Float) → c < channels → length out ≡ size → length (ramped_row from to n c out) ≡ size
  ramped_row_keeps size channels g c out h e = length_ramped_row c out (row_inside n out h (rw e g)) ∙ e

  pub length_ramped_rows : (channels : ℕ) (out : List Float) → channels * n ≤ length out → length (ramped_rows from to n channels out) ≡ length out
  unfolding ramped_rows
  length_ramped_rows channels out g =
      up_to_keeps (λ (x : List Float). length x ≡ length out) (ramped_row from to n) channels (ramped_row_keeps (length out) channels g) channels out (omega arith) refl

-- ---- rows of gains

pub length_taken : (id : ℕ) (gains : List Float) → id * 48 + 48 ≤ length gains → length (taken id gains) ≡ length gains
unfolding taken
length_taken id gains h = length_put gains (id * 48 + 24) (part 24 (id * 48) gains) (rw (length_part 24 (id * 48) gains (omega arith)) (omega arith))

pub taken_keeps : {rows : ℕ} (id : ℕ) (gains : List Float) → id < rows → length gains ≡ rows * 48 → length (taken id gains) ≡ rows * 48
taken_keeps id gains h e = length_taken id gains (omega arith) ∙ e

pub length_taken_over : {nc : ℕ} {ids : List ℕ} → Ids nc ids → (channels : ℕ) (resources : List Float) → channels ≤ 6 → length resources ≡ nc * 48
    → length (taken_over ids channels resources) ≡ length resources
unfolding taken_over
length_taken_over {nc} {ids} p channels resources h e =
    up_to_keeps (λ (x : List Float). length x ≡ nc * 48) (λ c. taken (get_or ids c 0)) channels
    (λ c x g q. taken_keeps (get_or ids c 0) x (p.each c (omega arith)) q) channels resources (omega arith) e
    ∙ sym e

-- ---- a destination that is configured is one of the nd

pub and_left : (a b : Bool) → (a && b) ≡ true → a ≡ true
and_left true b h = refl
and_left false b h = h

pub configured_inside : (ns nd : ℕ) (lists : List ℕ) (d : ℕ) → configured_of ns nd lists d ≡ true → d < nd
unfolding configured_of
configured_inside ns nd lists d h = ltb-true d nd (and_left (ltb d nd) _ h)
