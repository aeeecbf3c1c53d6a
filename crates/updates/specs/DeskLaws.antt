-- The desk's updates at their places, and what each leaves for the next. Assumes nothing.
use Rattle.std.specs.Prelude.{◌≡◌, List, ℕ, ◌+◌, ◌*◌, ◌≤◌, Float}
use Rattle.std.proofs.Common.{ap, ◌∙◌, arith}
use Rattle.std.proofs.Math.ListN.{length}
use Rattle.rows.specs.Rows.{part, put, length_put, part_put_same, part_put_before}
use Rattle.fields.specs.Fields.{section_of, rest_of}
use Rattle.params.specs.declared.params.Params.{Params}
use Rattle.params.specs.declared.sections.Sections.{Sections}
use Rattle.params.specs.Sizes.{revision_of}
use Rattle.state.specs.State.{mixes_of, mix_words, sink_words, list_words, mix_floats, sink_floats, destination_floats, mix_words_in, mix_floats_in}
use Rattle.desk_mixes.specs.Mixes.{MixesSized}
use Rattle.desk_updates.specs.DeskUpdate.{mix_rows_at, sink_rows_at, list_rows_at}
use Rattle.desk_updates.specs.Laws.{lists_long, mixes_long}
use Rattle.updates.specs.Update.{Desk, desk, DeskUpdatable, lists_in, with_lists, lists_size, mixes_in, with_mixes, with_sinks, mixes_at, after_desk}

-- ---- each update, done where its rows are found to begin

module _ (p : Params) (d : List ℕ) (k : Desk) where
  pub lists_made : {a c : ℕ} {w : List ℕ} {f : List Float} → a ≡ list_words p → c ≡ destination_floats p
      → w ≡ put k.words a (list_rows_at d p.splitters p.splitter_destinations a k.words c k.floats).words
      → f ≡ put k.floats c (list_rows_at d p.splitters p.splitter_destinations a k.words c k.floats).floats
      → desk w f ≡ with_lists p d k
  unfolding with_lists
  lists_made ea ec ew ef =
      (λ i. desk (ew i) (ef i))
      ∙ (λ i.
      let r = list_rows_at d p.splitters p.splitter_destinations (ea i) k.words (ec i) k.floats in
      desk (put k.words (ea i) r.words) (put k.floats (ec i) r.floats))

  pub lists_size_lem : {a c r : ℕ} → a ≡ list_words p → c ≡ destination_floats p
      → r ≡ (list_rows_at d p.splitters p.splitter_destinations a k.words c k.floats).at → r ≡ lists_size p d k
  unfolding lists_size
  lists_size_lem ea ec er = er ∙ (λ i. (list_rows_at d p.splitters p.splitter_destinations (ea i) k.words (ec i) k.floats).at)

  pub mixes_made : {v n a c : ℕ} {w : List ℕ} {f : List Float} → v ≡ revision_of p → n ≡ mixes_of p → a ≡ mix_words p → c ≡ mix_floats p
      → w ≡ put k.words a (mix_rows_at v d n a k.words c k.floats).words
      → f ≡ put k.floats c (mix_rows_at v d n a k.words c k.floats).floats
      → desk w f ≡ with_mixes p d k
  unfolding with_mixes
  mixes_made ev en ea ec ew ef =
      (λ i. desk (ew i) (ef i))
      ∙ (λ i.
      let r = mix_rows_at (ev i) d (en i) (ea i) k.words (ec i) k.floats in
      desk (put k.words (ea i) r.words) (put k.floats (ec i) r.floats))

  pub sinks_made : {a c : ℕ} {w : List ℕ} {f : List Float} → a ≡ sink_words p → c ≡ sink_floats p
      → w ≡ put k.words a (sink_rows_at d p.sinks a k.words c k.floats).words
      → f ≡ put k.floats c (sink_rows_at d p.sinks a k.words c k.floats).floats
      → desk w f ≡ with_sinks p d k
  unfolding with_sinks
  sinks_made ea ec ew ef =
      (λ i. desk (ew i) (ef i))
      ∙ (λ i.
      let r = sink_rows_at d p.sinks (ea i) k.words (ec i) k.floats in
      desk (put k.words (ea i) r.words) (put k.floats (ec i) r.floats))

  -- the mixes' rows, where they are found to begin
  pub mixes_found : {n a c : ℕ} → n ≡ mixes_of p → a ≡ mix_words p → c ≡ mix_floats p → DeskUpdatable p k
      → MixesSized n (part (n * 5) a k.words) (part (n * 577) c k.floats)
  mixes_found en ea ec h = rw (en, ea, ec) h.mixes

  -- ---- what is left of the desk can be updated in turn

  module _ (h : DeskUpdatable p k) where
    pub lists_keep : DeskUpdatable p (with_lists p d k)
    unfolding with_lists
    lists_keep =
        let l = lists_long d p.splitters p.splitter_destinations (list_words p) k.words (destination_floats p) k.floats
        h.allowed.splitters h.allowed.destinations (omega (arith, h.words)) (omega (arith, h.floats)) in
        let fw : list_words p + length (lists_in p d k).words ≤ length k.words = rw l.words_long (omega (arith, h.words)) in
        let ff : destination_floats p + length (lists_in p d k).floats ≤ length k.floats = rw l.floats_long (omega (arith, h.floats)) in
        let ew : mix_words_in p (put k.words (list_words p) (lists_in p d k).words) ≡ mix_words_in p k.words =
        part_put_before k.words (list_words p) (lists_in p d k).words fw (mixes_of p * 5) (mix_words p) (omega arith) in
        let ef : mix_floats_in p (put k.floats (destination_floats p) (lists_in p d k).floats) ≡ mix_floats_in p k.floats =
        part_put_before k.floats (destination_floats p) (lists_in p d k).floats ff (mixes_of p * 577) (mix_floats p) (omega arith) in
        record {
          allowed = h.allowed;
          words = length_put k.words (list_words p) (lists_in p d k).words fw ∙ h.words;
          floats = length_put k.floats (destination_floats p) (lists_in p d k).floats ff ∙ h.floats;
          mixes = rw (ew, ef) h.mixes;
        }

    pub mixes_keep : DeskUpdatable p (with_mixes p d k)
    unfolding with_mixes
    mixes_keep =
        let l = mixes_long (revision_of p) d (mixes_of p) (mix_words p) k.words (mix_floats p) k.floats
        (omega (arith, h.words)) (omega (arith, h.floats)) h.mixes in
        let fw : mix_words p + length (mixes_in p d k).words ≤ length k.words = rw l.words_long (omega (arith, h.words)) in
        let ff : mix_floats p + length (mixes_in p d k).floats ≤ length k.floats = rw l.floats_long (omega (arith, h.floats)) in
        let ew = part_put_same k.words (mix_words p) (mixes_in p d k).words fw (mixes_of p * 5) l.words_long in
        let ef = part_put_same k.floats (mix_floats p) (mixes_in p d k).floats ff (mixes_of p * 577) l.floats_long in
        record {
          allowed = h.allowed;
          words = length_put k.words (mix_words p) (mixes_in p d k).words fw ∙ h.words;
          floats = length_put k.floats (mix_floats p) (mixes_in p d k).floats ff ∙ h.floats;
          mixes = rw (ew, ef) l;
        }

-- ---- the three, one after the other

pub desk_done : (p : Params) (s : Sections) (input : List ℕ) (k : Desk) {size at : ℕ} {a b c : Desk} {d e f : List ℕ}
    → d ≡ rest_of input s.splitters_at → a ≡ with_lists p d k → size ≡ lists_size p d k → at ≡ s.splitters_at + size
    → e ≡ section_of input at s.mixes_size → b ≡ with_mixes p e a
    → f ≡ section_of input (at + s.mixes_size) s.sinks_size → c ≡ with_sinks p f b
    → c ≡ after_desk p s input k
unfolding after_desk mixes_at
desk_done p s input k {size = size} {a = a} {b = b} ed ea es et ee eb ef ec =
    let size_is = es ∙ ap (λ (d : List ℕ). lists_size p d k) ed in
    let at_is = et ∙ ap (λ (n : ℕ). s.splitters_at + n) size_is in
    let lists_is = ea ∙ ap (λ (d : List ℕ). with_lists p d k) ed in
    let mixes_is = eb ∙ (λ i. with_mixes p ((ee ∙ ap (λ (n : ℕ). section_of input n s.mixes_size) at_is) i) (lists_is i)) in
    ec ∙ (λ i. with_sinks p ((ef ∙ ap (λ (n : ℕ). section_of input (n + s.mixes_size) s.sinks_size) at_is) i) (mixes_is i))
