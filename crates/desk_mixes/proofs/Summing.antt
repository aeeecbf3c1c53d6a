-- The offsets, one after the other: `offset` is the sum of the buffers so far. Assumes nothing.
use mathlib.Core.Path.{◌≡◌, refl, ap, ◌∙◌}
use mathlib.Core.List.{List}
use Prim.Native.Nat.{ℕ, ◌+◌, ◌*◌, ◌≤◌, ◌<◌}
use native.Mathlib.Numerals.{add-one}
use native.Mathlib.Omega.{arith}
use lib.ListN.{length, get_or, set, length-set}
use Rattle.rows.specs.Loops.{Turning, turn_begin, turn_more, turn_end}
use Rattle.desk.specs.Columns.{AtMost}
use Rattle.desk_mixes.specs.Mixes.{counts_before, offset_step, offsets_of}
use Rattle.desk_mixes.specs.Offsets.{counts_below, counts_set, offset_other}

-- after k mixes
pub record Summing (n : ℕ) (words₀ words : List ℕ) (offset k : ℕ) : Type 0 where
  pub steps : Turning (λ (w : List ℕ). (length w ≡ length words₀) × AtMost n 5 1 24 w) offset_step n words₀ words k
  pub sum : offset ≡ counts_before k words

pub begin : (n : ℕ) (words : List ℕ) → AtMost n 5 1 24 words → Summing n words words 0 0
unfolding counts_before
begin n words all = record { steps = turn_begin _ _ _ _ (refl, all); sum = refl }

module _ {n : ℕ} {words₀ words : List ℕ} {offset k : ℕ} (s : Summing n words₀ words offset k) where
  -- no sum is above 24 for each mix
  pub below : k < n → offset + get_or (set words (k * 5 + 4) offset) (k * 5 + 1) 0 ≤ k * 24 + 24
  below h =
      let so_far : counts_before k words ≤ k * 24 = counts_below n k words (omega arith) s.steps.kept.1 in
      rw (offset_other words k offset k 1 (omega arith)) (omega (arith, s.sum, s.steps.kept.1 k h))

  pub more : k < n → Summing n words₀ (set words (k * 5 + 4) offset) (offset + get_or (set words (k * 5 + 4) offset) (k * 5 + 1) 0) (k + 1)
  unfolding counts_before offset_step
  more h = record {
    steps = turn_more s.steps h
        (λ q. let x = counts_before k words in (length-set words (k * 5 + 4) x ∙ q.0, λ i l. rw (offset_other words k x i 1 (omega arith)) (q.1 i l)))
        (ap (set words (k * 5 + 4)) s.sum);
    sum = rw (add-one k, counts_set words k offset k) (ap (λ (x : ℕ). x + get_or (set words (k * 5 + 4) offset) (k * 5 + 1) 0) s.sum);
  }

  pub end : n ≤ k → words ≡ offsets_of n words₀
  unfolding offsets_of
  end h = turn_end s.steps h refl
