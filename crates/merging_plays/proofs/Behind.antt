-- Behind its voices an update reads of the merged block what it reads of the title's: splitters, mixes and sinks. Assumes nothing.
use mathlib.Core.Path.{◌≡◌, refl, ap, sym, ◌∙◌}
use mathlib.Core.Bool.{Bool, true, false, cond}
use mathlib.Core.List.{List, []}
use Prim.Native.Nat.{ℕ, zero, suc, ◌+◌, ◌≤◌, ◌<◌}
use native.Mathlib.Nat.{add_assoc}
use native.Mathlib.Omega.{arith}
use borrow.Author.Tests.{leb-true, leb-false}
use lib.Dec.{leb}
use lib.ListN.{length, take, length-drop, drop_of_length-le}
use lib.Seq.{drop-drop}
use Rattle.fields.specs.Fields.{section_of, rest_of}
use Rattle.fields.specs.Sections.{section_in, section_out}
use Rattle.params.specs.declared.params.Params.{Params}
use Rattle.params.specs.declared.sections.Sections.{Sections}
use Rattle.params.specs.Sections.{sections_of}
use Rattle.updates.specs.Update.{Desk, with_lists, lists_size, with_mixes, with_sinks, mixes_at, after_desk}
use Rattle.secrecy.proofs.Positions.{section_none}
use Rattle.merging.specs.Merge.{block_header, title_sections, merged_block}
use Rattle.merging_plays.proofs.Header.{title_sections_lem}
use Rattle.merging_plays.proofs.Laid.{sections_merged, behind_effects}

-- ---- sections and rests of a rest

rest_rest : (s : List ℕ) (a b : ℕ) → rest_of s (a + b) ≡ rest_of (rest_of s a) b
unfolding rest_of
rest_rest s a b = sym (drop-drop b a s)

-- a section of no byte
section_empty : (s : List ℕ) (at : ℕ) → section_of s at 0 ≡ []
unfolding section_of
section_empty s at = either (leb (at + 0) (length s)) where
  either : (t : Bool) → cond t (take 0 s) [] ≡ []
  either true = refl
  either false = refl

section_by_lem : (s : List ℕ) (at o n : ℕ) (t : Bool) → leb (at + o + suc n) (length s) ≡ t
    → section_of s (at + o) (suc n) ≡ section_of (rest_of s at) o (suc n)
unfolding rest_of
section_by_lem s at o n true e =
    let fits : at + o + suc n ≤ length s = leb-true _ _ e in
    section_in s (at + o) (suc n) fits
    ∙ ap (take (suc n)) (sym (drop-drop o at s))
    ∙ sym (section_in _ o (suc n) (rw length-drop (omega arith)))
section_by_lem s at o n false e =
    let out : length s < at + o + suc n = leb-false _ _ e in
    section_out s (at + o) (suc n) out ∙ sym (section_out _ o (suc n) (rw length-drop (omega arith)))

section_rest : (s : List ℕ) (at o n : ℕ) → section_of s (at + o) n ≡ section_of (rest_of s at) o n
section_rest s at o zero = section_empty s (at + o) ∙ sym (section_empty (rest_of s at) o)
section_rest s at o (suc n) = section_by_lem s at o n _ refl

-- ---- the desk by the bytes from the splitters on, with the sizes of mixes and sinks

desk_from : Params → ℕ → ℕ → List ℕ → Desk → Desk
desk_from p mixes sinks d k =
    let at = lists_size p d k in
    with_sinks p (section_of d (at + mixes) sinks) (with_mixes p (section_of d at mixes) (with_lists p d k))

desk_from_lem : (p : Params) (s : Sections) (input : List ℕ) (k : Desk)
    → after_desk p s input k ≡ desk_from p s.mixes_size s.sinks_size (rest_of input s.splitters_at) k
unfolding after_desk mixes_at desk_from
desk_from_lem p s input k =
    let at = s.splitters_at in
    let d = rest_of input at in
    let size = lists_size p d k in
    let mixes = section_rest input at size s.mixes_size in
    let sinks = ap (λ (o : ℕ). section_of input o s.sinks_size) (add_assoc at size s.mixes_size)
    ∙ section_rest input at (size + s.mixes_size) s.sinks_size in
    λ i. with_sinks p (sinks i) (with_mixes p (mixes i) (with_lists p d k))

-- no byte gives the same desk whatever the sizes
desk_none : (p : Params) (mixes sinks mixes' sinks' : ℕ) (k : Desk) → desk_from p mixes sinks [] k ≡ desk_from p mixes' sinks' [] k
unfolding desk_from
desk_none p mixes sinks mixes' sinks' k =
    let at = lists_size p [] k in
    let same : (a n b m : ℕ) → section_of [] a n ≡ section_of [] b m = λ a n b m. section_none a n ∙ sym (section_none b m) in
    λ i. with_sinks p (same (at + mixes) sinks (at + mixes') sinks' i) (with_mixes p (same at mixes at mixes' i) (with_lists p [] k))

-- a header that is cut short leaves no byte behind it
nothing_behind : (t h : List ℕ) → length t < block_header → rest_of t (sections_of h).splitters_at ≡ []
unfolding rest_of sections_of
nothing_behind t h short =
    let far : length t ≤ (sections_of h).splitters_at = omega arith in
    drop_of_length-le t far

-- ---- the merged block's

module _ (n : ℕ) (few : n ≤ 64) (t c : List ℕ) where
  abbrev block : List ℕ
  block = merged_block n t c

  abbrev own : Sections
  own = title_sections t

  -- from its splitters on it is the title from where its header, filled up, has them
  pub behind_splitters : rest_of block (sections_of block).splitters_at ≡ rest_of t own.splitters_at
  unfolding sections_of
  behind_splitters =
      let effects = (sections_of block).effects_at in
      let size = ap (λ (s : Sections). s.effects_size) (sections_merged n few t c) in
      rest_rest block effects (sections_of block).effects_size
      ∙ (λ i. rest_of (behind_effects n few t c i) (size i))
      ∙ sym (rest_rest t own.effects_at own.effects_size)

  module _ (p : Params) (k : Desk) where
    -- by the title's own sizes, filled up
    desk_own : after_desk p (sections_of block) block k
        ≡ desk_from p own.mixes_size own.sinks_size (rest_of t own.splitters_at) k
    desk_own =
        let s = sections_merged n few t c in
        desk_from_lem p (sections_of block) block k ∙ (λ i. desk_from p (s i).mixes_size (s i).sinks_size (behind_splitters i) k)

    desk_by : (b : Bool) → leb 0x20 (length t) ≡ b → after_desk p (sections_of block) block k ≡ after_desk p (sections_of t) t k
    desk_by true e =
        let s = title_sections_lem t (leb-true _ _ e) in
        desk_own
        ∙ (λ i. desk_from p (s i).mixes_size (s i).sinks_size (rest_of t (s i).splitters_at) k)
        ∙ sym (desk_from_lem p (sections_of t) t k)
    desk_by false e =
        let short : length t < 0x20 = leb-false _ _ e in
        let mine = sections_of t in
        desk_own
        ∙ ap (λ (d : List ℕ). desk_from p own.mixes_size own.sinks_size d k) (nothing_behind t _ (omega arith))
        ∙ desk_none p own.mixes_size own.sinks_size mine.mixes_size mine.sinks_size k
        ∙ ap (λ (d : List ℕ). desk_from p mine.mixes_size mine.sinks_size d k) (sym (nothing_behind t t (omega arith)))
        ∙ sym (desk_from_lem p mine t k)

    -- the splitters, mixes and sinks of any desk: the merged block makes of them what the title's does, of any length
    pub desk_merged : after_desk p (sections_of block) block k ≡ after_desk p (sections_of t) t k
    desk_merged = desk_by _ refl
