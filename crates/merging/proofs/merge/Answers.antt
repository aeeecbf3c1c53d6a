-- `merging::merge` meets its contract: each answer is that of the questions asked so far. Assumes nothing.
use mathlib.Core.Bool.{Bool, true, false}
use mathlib.Core.List.{List}
use mathlib.Core.Path.{◌≡◌, refl, sym, ap, subst, ◌∙◌}
use Prim.Native.Nat.{ℕ, ◌≤◌}
use native.Mathlib.Omega.{arith}
use lib.ListN.{replicate}
use Rattle.params.specs.Sections.{voices_section}
use Rattle.whole.specs.Counts.{counts_allowed}
use Rattle.merging.specs.Merge.{voices_apart, channels_apart}
use Rattle.merging.specs.Marks.{most_marks, NamesMarked, marked}
use Rattle.merging.proofs.Asked.{merge_is, apart_by_marks, counts_few}
use Rattle.merging.proofs.Marking.{marked_names}
use Rattle.merging.proofs.merge.Goals as goal
use Rattle.merging.proofs.merge.Goals.{After-marks_apart, After-voices_apart, Else-not-counts_allowed, Else-not-voices_apart}

-- ---- what each question has answered

counts : (c : Else-not-counts_allowed) → counts_allowed c.args.p ≡ true
counts c = sym c.counts_allowed.ensures ∙ c.if-not-counts_allowed.false

few : (c : Else-not-counts_allowed) → c.args.p.voices ≤ 64
few c = counts_few _ (counts c)

voices : (c : After-voices_apart)
    → (voices_apart c.args.p.voices (voices_section c.args.title.now) (voices_section c.args.click.now) ≡ c.voices_apart.result)
voices c =
    let n = c.args.p.voices in
    (λ i. voices_apart n (sym c.voices_section-t.ensures i) (sym c.voices_section-c.ensures i))
    ∙ sym c.voices_apart.ensures

voices_yes : (c : Else-not-voices_apart)
    → (voices_apart c.args.p.voices (voices_section c.args.title.now) (voices_section c.args.click.now) ≡ true)
voices_yes c =
    let n = c.args.p.voices in
    (λ i. voices_apart n (sym c.voices_section-t.ensures i) (sym c.voices_section-c.ensures i))
    ∙ sym c.voices_apart.ensures
    ∙ c.if-not-voices_apart.false

-- marks made of a section d that is the one found, x
marks_named : (n : ℕ) → n ≤ 64 → {d x : List ℕ} {m : List Bool} → x ≡ d → m ≡ marked n x (replicate most_marks false) → NamesMarked n d m
marks_named n h {d} e q =
    subst (NamesMarked n d) (sym (q ∙ ap (λ (y : List ℕ). marked n y (replicate most_marks false)) e)) (marked_names n h d)

title_named : (c : After-marks_apart)
    → (NamesMarked c.args.p.voices (voices_section c.args.title.now) c.mark_named.new.marks)
title_named c =
    marks_named _ (counts_few _ (sym c.counts_allowed.ensures ∙ c.if-not-counts_allowed.false)) c.voices_section-t.ensures c.mark_named.ensures

click_named : (c : After-marks_apart)
    → (NamesMarked c.args.p.voices (voices_section c.args.click.now) c.mark_named-2.new.marks)
click_named c =
    marks_named _ (counts_few _ (sym c.counts_allowed.ensures ∙ c.if-not-counts_allowed.false)) c.voices_section-c.ensures c.mark_named-2.ensures

channels : (c : After-marks_apart)
    → (channels_apart c.args.p.voices (voices_section c.args.title.now) (voices_section c.args.click.now) ≡ c.marks_apart.result)
channels c =
    sym (apart_by_marks _ _ _ c.mark_named.new.marks c.mark_named-2.new.marks (title_named c) (click_named c))
    ∙ sym c.marks_apart.ensures

-- ---- the goals

pub returns-then-not-counts_allowed : goal.returns-then-not-counts_allowed
returns-then-not-counts_allowed c = sym (merge_is _ _ _ _ (sym c.counts_allowed.ensures ∙ c.if-not-counts_allowed.true) refl refl)

pub voices_apart-requires : goal.voices_apart-requires
voices_apart-requires c = few (goal.at.voices_apart-requires c).Else-not-counts_allowed

pub returns-then-not-voices_apart : goal.returns-then-not-voices_apart
returns-then-not-voices_apart c =
    sym (merge_is _ _ _ _ (counts (goal.at.returns-then-not-voices_apart c).Else-not-counts_allowed) (voices (goal.at.returns-then-not-voices_apart c).After-voices_apart ∙ c.if-not-voices_apart.true) refl)

pub mark_named-requires : goal.mark_named-requires
mark_named-requires c = (few (goal.at.mark_named-requires c).Else-not-counts_allowed, refl)

pub mark_named-requires-2 : goal.mark_named-requires-2
mark_named-requires-2 c = (few (goal.at.mark_named-requires-2 c).Else-not-counts_allowed, refl)

pub marks_apart-requires : goal.marks_apart-requires
marks_apart-requires c =
    let n = few (goal.at.marks_apart-requires c).Else-not-counts_allowed in
    (omega (arith, n, c.mark_named.auto.marks), omega (arith, n, c.mark_named-2.auto.marks))

pub returns-then-not-marks_apart : goal.returns-then-not-marks_apart
returns-then-not-marks_apart c =
    sym (merge_is _ _ _ _ (counts (goal.at.returns-then-not-marks_apart c).Else-not-counts_allowed) (voices_yes (goal.at.returns-then-not-marks_apart c).Else-not-voices_apart)
    (channels (goal.at.returns-then-not-marks_apart c).After-marks_apart ∙ c.if-not-marks_apart.true))

pub put_block-requires : goal.put_block-requires
put_block-requires c =
    let n = few (goal.at.put_block-requires c).Else-not-counts_allowed in
    (n, omega (arith, n, c.mark_named-2.auto.marks), click_named (goal.at.put_block-requires c).After-marks_apart)

pub returns : goal.returns
returns c =
    c.put_block.ensures
    ∙ sym (merge_is _ _ _ _ (counts (goal.at.returns c).Else-not-counts_allowed) (voices_yes (goal.at.returns c).Else-not-voices_apart)
    (channels (goal.at.returns c).After-marks_apart ∙ c.if-not-marks_apart.false))
