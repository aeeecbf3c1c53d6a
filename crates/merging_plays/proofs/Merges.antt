-- A merge that succeeds: what it has written is the merged block, and no voice is in use in both blocks. Assumes nothing.
use mathlib.Core.Path.{◌≡◌, refl}
use mathlib.Core.Bool.{Bool, true, false, cond, not, ◌&&◌}
use mathlib.Core.List.{List}
use Prim.Native.Nat.{ℕ, ◌<◌}
use native.Mathlib.Omega.{arith}
use borrow.Author.Tests.{leb-true, not-true}
use lib.Dec.{leb}
use lib.ListN.{length, take}
use Rattle.rows.specs.Rows.{part, put, part_put_same}
use Rattle.params.specs.declared.params.Params.{Params}
use Rattle.params.specs.Sections.{voices_section}
use Rattle.row_tests.specs.Tests.{all_at}
use Rattle.whole.specs.Counts.{counts_allowed}
use Rattle.merging.specs.Merge.{used_at, voices_apart, channels_apart, merged_block}
use Rattle.merging.specs.Answer.{MergeOutcome, merge_left, merge_done, merge_call}
use Rattle.merging.proofs.Asked.{asked_by}

module _ (p : Params) (t c output : List ℕ) where
  abbrev merged : List ℕ
  merged = merged_block p.voices t c

  -- the voices' sections
  abbrev title : List ℕ
  title = voices_section t

  abbrev click : List ℕ
  click = voices_section c

  pub record Merges (o : MergeOutcome) : Type 0 where
    pub block : take o.size o.output ≡ merged
    pub apart : (k : ℕ) → k < p.voices → used_at title k && used_at click k ≡ false

  -- the block, where it fits
  fits_by : (room : Bool) → leb (length merged) (length output) ≡ room
      → (let o = cond room (merge_left 0 (length merged) (put output 0 merged)) (merge_left 18 0 output) in
      o.number ≡ 0 → take o.size o.output ≡ merged)
  unfolding part
  fits_by true r e = part_put_same output 0 merged (omega (arith, leb-true (length merged) (length output) r)) (length merged) refl
  fits_by false r e = absurd (omega arith)

  -- by the answers to questions 2, 16 and 17
  merges_by : (counts voices channels : Bool) → voices_apart p.voices title click ≡ voices
      → (asked_by p t c output counts voices channels).number ≡ 0 → Merges (asked_by p t c output counts voices channels)
  unfolding voices_apart merge_done
  merges_by true true true v e = record {
    block = fits_by _ refl e;
    apart = λ k l. not-true _ (all_at (λ k. not (used_at title k && used_at click k)) p.voices v k l);
  }
  merges_by true true false v e = absurd (omega arith)
  merges_by true false channels v e = absurd (omega arith)
  merges_by false voices channels v e = absurd (omega arith)

  pub merges : (merge_call p t c output).number ≡ 0 → Merges (merge_call p t c output)
  unfolding merge_call
  merges = merges_by (counts_allowed p) (voices_apart p.voices title click) (channels_apart p.voices title click) refl
