-- An update finds in the merged block what was written: its sections, each voice's record and each channel resource. Assumes nothing.
use mathlib.Core.Path.{◌≡◌, refl, ap, sym, ◌∙◌}
use mathlib.Core.Bool.{Bool, true, false, cond, true≢false}
use mathlib.Core.List.{List, [], ◌∷◌, ◌++◌, append_assoc}
use Prim.Native.Nat.{ℕ, ◌+◌, ◌*◌, ◌≤◌, ◌<◌}
use native.Mathlib.Omega.{arith}
use borrow.Author.Tests.{leb-true, leb-false}
use lib.Dec.{leb}
use lib.ListN.{length, take, drop, length-append}
use lib.Seq.{take_at, drop_at}
use Rattle.rows.specs.Rows.{part}
use Rattle.rows.specs.Folds.{row_end}
use Rattle.rows.specs.Tables.{joined, length_joined}
use Rattle.fields.specs.Fields.{field_at, flag_at, section_of, rest_of}
use Rattle.fields.specs.Sections.{section_in, section_out, length_section}
use Rattle.params.specs.declared.sections.Sections.{Sections}
use Rattle.params.specs.Sections.{laid_out, sections_of, voices_section, resources_section}
use Rattle.desk.specs.Channels.{channel_record}
use Rattle.voice_records.specs.Record.{record_used}
use Rattle.voices.specs.Voices.{record_at, voice_record}
use Rattle.reply_sections.specs.Bytes.{zeros}
use Rattle.opened.specs.Sections.{part_joined}
use Rattle.secrecy.proofs.Positions.{none_recorded}
use Rattle.merging.specs.Merge.{block_header, record_size, resource_size, padded, used_at, chosen_record, merged_record, merged_resource}
use Rattle.merging.specs.Merge.{title_sections, written_header, merged_pools, behind_voices, merged_block}
use Rattle.merging.proofs.Lengths.{length_written, length_pools, length_record, length_resource, length_records, length_resources}
use Rattle.merging.proofs.Lengths.{length_merged}
use Rattle.merging.proofs.Padding.{padded_none, padded_whole}
use Rattle.merging_plays.proofs.Header.{sections_written}

-- ---- a section between others, and a row of rows

section_middle : (a b x : List ℕ) {at n : ℕ} → length a ≡ at → length b ≡ n → section_of (a ++ b ++ x) at n ≡ b
section_middle a b x {at} {n} la lb =
    let fits : at + n ≤ length (a ++ b ++ x) = rw (length-append, length-append) (omega arith) in
    section_in (a ++ b ++ x) at n fits
    ∙ ap (λ (d : List ℕ). take n (drop at d)) (append_assoc a b x)
    ∙ ap (take n) (drop_at a (b ++ x) at la)
    ∙ take_at b x n lb

section_row : (w n : ℕ) (f : ℕ → List ℕ) → ((k : ℕ) → length (f k) ≡ w) → (k : ℕ) → k < n → section_of (joined n f) (k * w) w ≡ f k
unfolding part
section_row w n f wide k l =
    let fits : k * w + w ≤ length (joined n f) = omega (arith, length_joined w n f wide, row_end 0 w k n l) in
    section_in (joined n f) (k * w) w fits ∙ part_joined w n f wide k l

-- ---- a record in use is whole

none_used : record_used [] ≡ false
unfolding record_used flag_at field_at
none_used = refl

long_by : (s : List ℕ) (at : ℕ) (b : Bool) → leb (at + record_size) (length s) ≡ b → record_used (section_of s at record_size) ≡ true
    → length (section_of s at record_size) ≡ record_size
long_by s at true e u = length_section s at record_size (leb-true _ _ e)
long_by s at false e u = absurd (true≢false (sym u ∙ ap record_used (section_out s at record_size (leb-false _ _ e)) ∙ none_used))

long_used : (d : List ℕ) (k : ℕ) → used_at d k ≡ true → length (record_at d k) ≡ record_size
long_used d k u = long_by d (k * record_size) _ refl u

-- so the input that has it has a byte
pub used_nonempty : (input : List ℕ) (k : ℕ) → record_used (voice_record input k) ≡ true → 0 < length input
used_nonempty [] k u = absurd (true≢false (sym u ∙ ap record_used (none_recorded k) ∙ none_used))
used_nonempty (x ∷ input) k u = omega arith

-- the one that is chosen, filled up: itself, or zeros where there is none
chosen_is : (u v : Bool) (a b : List ℕ) → (u ≡ true → length a ≡ record_size) → (v ≡ true → length b ≡ record_size)
    → padded record_size 0 (cond u a (cond v b [])) ≡ cond u a (cond v b (zeros record_size))
chosen_is true v a b la lb = padded_whole record_size a (la refl)
chosen_is false true a b la lb = padded_whole record_size b (lb refl)
chosen_is false false a b la lb = sym (padded_none record_size 0)

-- ---- the block

module _ (n : ℕ) (few : n ≤ 64) (t c : List ℕ) where
  abbrev block : List ℕ
  block = merged_block n t c

  abbrev own : Sections
  own = title_sections t

  abbrev resources : List ℕ
  resources = joined n (merged_resource n t c)

  abbrev voices : List ℕ
  voices = joined n (merged_record t c)

  -- an update lays it out by the title's sizes but for the two that are written
  pub sections_merged : sections_of block
      ≡ laid_out own.behavior_size own.pools_size (n * record_size) (n * resource_size) own.effects_size own.mixes_size
      own.sinks_size
  unfolding merged_block sections_of
  sections_merged =
      let w = written_header n t in
      let parts = append_assoc (w ++ merged_pools t ++ resources) voices (behind_voices t)
      ∙ append_assoc (w ++ merged_pools t) resources (voices ++ behind_voices t)
      ∙ append_assoc w (merged_pools t) (resources ++ (voices ++ behind_voices t)) in
      ap sections_of parts ∙ sections_written n few t (merged_pools t ++ (resources ++ (voices ++ behind_voices t)))

  -- it has at least a header
  pub merged_nonempty : block_header ≤ length block
  merged_nonempty = omega (arith, length_merged n t c)

  -- ---- how long what stands before each section is

  before_resources : length (written_header n t ++ merged_pools t) ≡ block_header + own.behavior_size + own.pools_size
  before_resources = rw (length-append, length_written, length_pools) (omega arith)

  before_voices : length (written_header n t ++ merged_pools t ++ resources)
      ≡ block_header + own.behavior_size + own.pools_size + n * resource_size
  before_voices = rw (length-append, before_resources, length_resources)

  before_effects : length (written_header n t ++ merged_pools t ++ resources ++ voices)
      ≡ block_header + own.behavior_size + own.pools_size + n * resource_size + n * record_size
  before_effects = rw (length-append, before_voices, length_records)

  -- ---- the two sections that are written

  voices_found : voices_section block ≡ voices
  unfolding merged_block
  voices_found =
      ap (λ (s : Sections). section_of block s.voices_at s.voices_size) sections_merged
      ∙ section_middle (written_header n t ++ merged_pools t ++ resources) voices (behind_voices t) before_voices (length_records n t c)

  resources_found : resources_section block ≡ resources
  unfolding merged_block
  resources_found =
      let at = block_header + own.behavior_size + own.pools_size in
      ap (λ (s : Sections). section_of block s.resources_at s.resources_size) sections_merged
      ∙ ap (λ (d : List ℕ). section_of d at (n * resource_size))
      (append_assoc (written_header n t ++ merged_pools t ++ resources) voices (behind_voices t))
      ∙ section_middle (written_header n t ++ merged_pools t) resources (voices ++ behind_voices t) before_resources (length_resources n t c)

  -- record k that an update reads: the title's where that is in use, else the click's where that is, else zeros
  pub record_merged : (k : ℕ) → k < n
      → voice_record block k
      ≡ cond (used_at (voices_section t) k) (voice_record t k) (cond (used_at (voices_section c) k) (voice_record c k) (zeros record_size))
  unfolding merged_record chosen_record
  record_merged k l =
      let d = voices_section t in
      let e = voices_section c in
      ap (λ (s : List ℕ). record_at s k) voices_found
      ∙ section_row record_size n (merged_record t c) (length_record t c) k l
      ∙ chosen_is (used_at d k) (used_at e k) (record_at d k) (record_at e k) (long_used d k) (long_used e k)

  -- channel resource j
  pub resource_merged : (j : ℕ) → j < n → channel_record (resources_section block) j ≡ merged_resource n t c j
  unfolding channel_record
  resource_merged j l =
      ap (λ (s : List ℕ). section_of s (j * resource_size) resource_size) resources_found
      ∙ section_row resource_size n (merged_resource n t c) (length_resource n t c) j l

  -- from its effects section on it is the title from its own
  pub behind_effects : rest_of block (sections_of block).effects_at ≡ behind_voices t
  unfolding merged_block rest_of
  behind_effects =
      ap (λ (s : Sections). drop s.effects_at block) sections_merged
      ∙ drop_at (written_header n t ++ merged_pools t ++ resources ++ voices) (behind_voices t) _ before_effects
