-- What an update reads of the merged block's header, and of the title's. Assumes nothing.
use mathlib.Core.Path.{◌≡◌, ap, sym, ◌∙◌}
use mathlib.Core.List.{List, ◌++◌}
use Prim.Native.Nat.{ℕ, ◌+◌, ◌*◌, ◌≤◌, ◌<◌}
use native.Mathlib.Nat.{zero-add}
use native.Mathlib.Omega.{arith}
use borrow.Author.Tests.{le-leb}
use lib.ListN.{length, get_or, length-append, get_or-append}
use Rattle.rows.specs.Rows.{put}
use Rattle.rows.specs.Tables.{get_d_table}
use Rattle.fields.specs.Fields.{field_at, bytes_of}
use Rattle.fields.specs.Reads.{field_same}
use Rattle.fields.specs.Writes.{length_bytes, field_put, field_put_before, field_put_after}
use Rattle.params.specs.Sections.{laid_out, sections_of}
use Rattle.merging.specs.Merge.{block_header, record_size, resource_size, padded, title_header, title_sections, written_header}
use Rattle.merging.proofs.Lengths.{length_header, length_sized, length_written}

-- ---- fields of lists that have the same bytes there

same_field : (d e : List ℕ) (o : ℕ) → o + 4 ≤ length d → o + 4 ≤ length e → ((i : ℕ) → i < 4 → get_or d (o + i) 0 ≡ get_or e (o + i) 0)
    → field_at 4 d o ≡ field_at 4 e o
same_field d e o a b same = field_same 4 d e o o (le-leb _ _ a ∙ sym (le-leb _ _ b)) same

-- the title's header, filled up, has the title's own fields
title_field : (t : List ℕ) (o : ℕ) → o + 4 ≤ length t → o + 4 ≤ block_header → field_at 4 (title_header t) o ≡ field_at 4 t o
unfolding title_header padded
title_field t o there inside =
    same_field (title_header t) t o (omega (arith, length_header t)) there
    (λ i l. get_d_table block_header _ (o + i) 0 (omega arith) ∙ ap (λ (j : ℕ). get_or t j 0) (zero-add (o + i)))

-- where they are all there, an update lays the title out as its header filled up does
pub title_sections_lem : (t : List ℕ) → 0x20 ≤ length t → title_sections t ≡ sections_of t
unfolding sections_of
title_sections_lem t long =
    let size : (o : ℕ) → o + 4 ≤ 0x20 → field_at 4 (title_header t) o ≡ field_at 4 t o = λ o l. title_field t o (omega arith) (omega arith) in
    λ i. laid_out (size 0x04 (omega arith) i) (size 0x08 (omega arith) i) (size 0x0c (omega arith) i) (size 0x10 (omega arith) i)
    (size 0x14 (omega arith) i) (size 0x18 (omega arith) i) (size 0x1c (omega arith) i)

-- ---- the header as it is written

module _ (n : ℕ) (few : n ≤ 64) (t : List ℕ) where
  -- with the first of the two sizes
  abbrev once : List ℕ
  once = put (title_header t) 0x0c (bytes_of 4 (n * record_size))

  long_once : length once ≡ block_header
  long_once = length_sized (title_header t) 0x0c (n * record_size) (length_header t) (omega arith)

  fits_first : 0x0c + length (bytes_of 4 (n * record_size)) ≤ length (title_header t)
  fits_first = rw length_bytes (omega (arith, length_header t))

  fits_second : 0x10 + length (bytes_of 4 (n * resource_size)) ≤ length once
  fits_second = rw length_bytes (omega (arith, long_once))

  -- a size that is the title's, before the two and behind them
  before_both : (o : ℕ) → o + 4 ≤ 0x0c → field_at 4 (written_header n t) o ≡ field_at 4 (title_header t) o
  unfolding written_header
  before_both o h =
      field_put_before once 0x10 (bytes_of 4 (n * resource_size)) fits_second 4 o (omega arith)
      ∙ field_put_before (title_header t) 0x0c (bytes_of 4 (n * record_size)) fits_first 4 o h

  behind_both : (o : ℕ) → 0x14 ≤ o → field_at 4 (written_header n t) o ≡ field_at 4 (title_header t) o
  unfolding written_header
  behind_both o h =
      field_put_after once 0x10 (bytes_of 4 (n * resource_size)) fits_second 4 o (rw length_bytes h)
      ∙ field_put_after (title_header t) 0x0c (bytes_of 4 (n * record_size)) fits_first 4 o (rw length_bytes (omega arith))

  -- the two
  voices_size : field_at 4 (written_header n t) 0x0c ≡ n * record_size
  unfolding written_header
  voices_size =
      field_put_before once 0x10 (bytes_of 4 (n * resource_size)) fits_second 4 0x0c (omega arith)
      ∙ field_put 4 (n * record_size) (title_header t) 0x0c (omega arith) (omega (arith, length_header t))

  resources_size : field_at 4 (written_header n t) 0x10 ≡ n * resource_size
  unfolding written_header
  resources_size = field_put 4 (n * resource_size) once 0x10 (omega arith) (omega (arith, long_once))

  -- whatever stands behind it
  written_field : (x : List ℕ) (o : ℕ) → o + 4 ≤ block_header → field_at 4 (written_header n t ++ x) o ≡ field_at 4 (written_header n t) o
  written_field x o h =
      let w = written_header n t in
      let l = length_written n t in
      same_field (w ++ x) w o (rw length-append (omega (arith, l))) (omega (arith, l))
      (λ i q. get_or-append w x 0 (o + i) (omega (arith, l)))

  -- a block that begins with it is laid out by the title's sizes but for two
  pub sections_written : (x : List ℕ)
      → (let h = title_header t in
      sections_of (written_header n t ++ x)
      ≡ laid_out (field_at 4 h 0x04) (field_at 4 h 0x08) (n * record_size) (n * resource_size) (field_at 4 h 0x14) (field_at 4 h 0x18)
      (field_at 4 h 0x1c))
  unfolding sections_of
  sections_written x =
      let before : (o : ℕ) → o + 4 ≤ 0x0c → field_at 4 (written_header n t ++ x) o ≡ field_at 4 (title_header t) o =
      λ o l. written_field x o (omega arith) ∙ before_both o l in
      let behind : (o : ℕ) → 0x14 ≤ o → o + 4 ≤ block_header → field_at 4 (written_header n t ++ x) o ≡ field_at 4 (title_header t) o =
      λ o l h. written_field x o h ∙ behind_both o l in
      λ i. laid_out (before 0x04 (omega arith) i) (before 0x08 (omega arith) i)
      ((written_field x 0x0c (omega arith) ∙ voices_size) i) ((written_field x 0x10 (omega arith) ∙ resources_size) i)
      (behind 0x14 (omega arith) (omega arith) i) (behind 0x18 (omega arith) (omega arith) i) (behind 0x1c (omega arith) (omega arith) i)
