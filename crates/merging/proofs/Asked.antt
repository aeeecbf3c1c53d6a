-- The call's outcome by what its questions answer; a question that is not asked may have any answer. Assumes nothing.
use mathlib.Core.Bool.{Bool, true, false, cond, not, ◌&&◌}
use mathlib.Core.List.{List}
use mathlib.Core.Path.{◌≡◌, refl}
use Prim.Native.Nat.{ℕ, zero, suc, ◌≤◌, ◌<◌}
use native.Mathlib.Omega.{arith}
use borrow.Author.Tests.{le-leb, lt-leb, leb-true}
use lib.ListN.{length, get_or}
use Rattle.rows.specs.Rows.{put}
use Rattle.row_tests.specs.Tests.{all, every_at}
use Rattle.params.specs.declared.params.Params.{Params}
use Rattle.params.specs.Sections.{voices_section}
use Rattle.whole.specs.Counts.{count_tests, counts_allowed}
use Rattle.merging.specs.Merge.{voices_apart, channels_apart, merged_block}
use Rattle.merging.specs.Marks.{NamesMarked}
use Rattle.merging.specs.Answer.{MergeOutcome, merge_left, merge_done, merge_call}

-- ---- question 18

pub done_fits : (block output : List ℕ) → length block ≤ length output
    → merge_done block output ≡ merge_left 0 (length block) (put output 0 block)
unfolding merge_done
done_fits block output h = rw (le-leb _ _ h)

pub done_short : (block output : List ℕ) → length output < length block → merge_done block output ≡ merge_left 18 0 output
unfolding merge_done
done_short block output h = rw (lt-leb _ _ h)

-- ---- question 17, of marks

all_alike : (n : ℕ) (f g : ℕ → Bool) → ((j : ℕ) → j < n → f j ≡ g j) → all n f ≡ all n g
unfolding all
all_alike zero f g h = refl
all_alike (suc n) f g h = λ i. all_alike n f g (λ j l. h j (omega arith)) i && h n (omega arith) i

pub apart_by_marks : (n : ℕ) (d e : List ℕ) (a b : List Bool) → NamesMarked n d a → NamesMarked n e b
    → all n (λ j. not (get_or a j false && get_or b j false)) ≡ channels_apart n d e
unfolding channels_apart
apart_by_marks n d e a b x y = all_alike n _ _ (λ j l i. not (x j l i && y j l i))

-- ---- the whole call

module _ (p : Params) (t c output : List ℕ) where
  -- by the answers to 2, 16 and 17
  abbrev pub asked_by : Bool → Bool → Bool → MergeOutcome
  asked_by counts voices channels =
      cond counts
      (cond voices (cond channels (merge_done (merged_block p.voices t c) output) (merge_left 17 0 output)) (merge_left 16 0 output))
      (merge_left 2 0 output)

  pub merge_is : {counts voices channels : Bool} → counts_allowed p ≡ counts
      → voices_apart p.voices (voices_section t) (voices_section c) ≡ voices
      → channels_apart p.voices (voices_section t) (voices_section c) ≡ channels → merge_call p t c output ≡ asked_by counts voices channels
  unfolding merge_call
  merge_is x y z = λ i. asked_by (x i) (y i) (z i)

-- question 2 bounds the voices
pub counts_few : (p : Params) → counts_allowed p ≡ true → p.voices ≤ 64
unfolding counts_allowed
counts_few p h = leb-true _ _ (every_at (count_tests p) h 2)
