-- Reader and writer undo each other, and so accept the same things. Assumes nothing.
use Prim.Native.Nat.{ℕ, ◌+◌, ◌-◌, ◌≤◌}
use mathlib.Core.Bool.{Bool, true, false, ◌&&◌, and-eq-true_iff}
use mathlib.Core.List.{List, ◌++◌}
use mathlib.Core.Path.{◌≡◌, refl, sym, ap, ◌∙◌}
use native.Mathlib.Omega.{arith}
use borrow.Author.Tests.{leb-true, le-leb, eqb-true, eq-eqb}
use lib.Dec.{leb, eqb}
use lib.ListN.{length, take, drop, length-append, take-append-drop}
use lib.Seq.{take_at, drop_at}
use Rattle.rows.specs.Rows.{part, put}
use Rattle.fields.specs.Fields.{rest_of}
use Rattle.dsp_header.specs.declared.DspHeader.{DspHeader}
use Rattle.dsp_header.specs.Header.{header_size, header_of, padding_of, header_bytes}
use Rattle.dsp_header.specs.Within.{Bytes, Within}
use Rattle.dsp_header.proofs.BytesAgain.{header_bytes_again}
use Rattle.dsp_header.proofs.HeaderAgain.{header_values_again, padding_again}
use Rattle.dsp_header.proofs.Sizes.{length_header}
use Rattle.dsp_file.specs.File.{plain_header, plain_file, holds_samples, has_room, data_of, file_bytes}
use Rattle.dsp_file.specs.File.{read_by, read_left, read_call, write_by, write_left, write_call}
use Rattle.dsp_file.proofs.Asked.{length_data, read_is, write_is}

-- ---- what success says

read_by_lem : (a b : Bool) (file : List ℕ) → (read_by a b file).number ≡ 0 → (a ≡ true) × (b ≡ true)
read_by_lem true true file e = (refl, refl)
read_by_lem true false file e = absurd (omega arith)
read_by_lem false b file e = absurd (omega arith)

write_by_lem : (a b : Bool) (h : DspHeader) (d out : List ℕ) → (write_by a b h d out).number ≡ 0 → (a ≡ true) × (b ≡ true)
write_by_lem true true h d out e = (refl, refl)
write_by_lem true false h d out e = absurd (omega arith)
write_by_lem false b h d out e = absurd (omega arith)

-- a file that is accepted
pub record Accepted (file : List ℕ) : Type 0 where
  pub long : header_size ≤ length file
  pub plain : plain_header (header_of file) ≡ true
  pub padding : padding_of file ≡ 0
  pub holds : holds_samples (header_of file).samples (length (data_of file)) ≡ true

pub accepted : (file : List ℕ) → (read_call file).number ≡ 0 → Accepted file
unfolding read_call plain_file
accepted file e =
    let b = read_by_lem (plain_file file) (holds_samples (header_of file).samples (length (data_of file))) file e in
    let l = (and-eq-true_iff (leb header_size (length file)) (plain_header (header_of file) && eqb (padding_of file) 0)).0 b.0 in
    let p = (and-eq-true_iff (plain_header (header_of file)) (eqb (padding_of file) 0)).0 l.1 in
    record { long = leb-true header_size (length file) l.0; plain = p.0; padding = eqb-true (padding_of file) 0 p.1; holds = b.1 }

-- a writing that succeeds
pub record Succeeds (h : DspHeader) (d out : List ℕ) : Type 0 where
  pub plain : plain_header h ≡ true
  pub holds : holds_samples h.samples (length d) ≡ true
  pub room : has_room (length d) (length out) ≡ true

pub succeeds : (h : DspHeader) (d out : List ℕ) → (write_call h d out).number ≡ 0 → Succeeds h d out
unfolding write_call
succeeds h d out e =
    let b = write_by_lem (plain_header h) (holds_samples h.samples (length d) && has_room (length d) (length out)) h d out e in
    let q = (and-eq-true_iff (holds_samples h.samples (length d)) (has_room (length d) (length out))).0 b.1 in
    record { plain = b.0; holds = q.0; room = q.1 }

-- ---- a file that is read and written

module _ (file : List ℕ) (bytes : Bytes file) (a : Accepted file) where
  -- its header's bytes and its data are the file
  again : file_bytes (header_of file) (data_of file) ≡ file
  unfolding data_of rest_of part
  again =
      ap (λ (r : List ℕ). r ++ drop header_size file) (header_bytes_again file bytes a.long a.padding)
      ∙ take-append-drop header_size file

  whole : header_size + length (data_of file) ≡ length file
  whole = omega (arith, length_data file, a.long)

-- for every file that is accepted, writing the header that was read and the data behind it gives the same bytes, into any output with room
pub file_again : (file out : List ℕ) → Bytes file → (read_call file).number ≡ 0 → length file ≤ length out
    → write_call (read_call file).header (data_of file) out ≡ write_left 0 (length file) (put out 0 file)
unfolding has_room
file_again file out bytes e room =
    let a = accepted file e in
    let read = read_is file (le-leb header_size (length file) a.long) a.plain (eq-eqb (padding_of file) 0 a.padding)
    (ap (holds_samples (header_of file).samples) (sym (length_data file)) ∙ a.holds) in
    let fits = le-leb (header_size + length (data_of file)) (length out) (omega (arith, whole file bytes a)) in
    (λ i. write_call (read i).header (data_of file) out)
    ∙ write_is (header_of file) (data_of file) out a.plain a.holds fits
    ∙ (λ i. write_left 0 (whole file bytes a i) (put out 0 (again file bytes a i)))

-- ---- a header that is written and read

module _ (h : DspHeader) (d : List ℕ) where
  length_file : length (file_bytes h d) ≡ header_size + length d
  length_file = length-append (header_bytes h) d ∙ ap (λ (n : ℕ). n + length d) (length_header h)

  -- what was written to the front of an output
  front : (out : List ℕ) → take (header_size + length d) (put out 0 (file_bytes h d)) ≡ file_bytes h d
  unfolding put
  front out = take_at (file_bytes h d) (drop (0 + length (file_bytes h d)) out) (header_size + length d) length_file

  data_again : data_of (file_bytes h d) ≡ d
  unfolding data_of rest_of
  data_again = drop_at (header_bytes h) d header_size (length_header h)

  read_again : Within h → plain_header h ≡ true → holds_samples h.samples (length d) ≡ true → read_call (file_bytes h d) ≡ read_left 0 h
  read_again w p q =
      let same = header_values_again h w d in
      let n : length (file_bytes h d) - header_size ≡ length d = omega (arith, length_file) in
      read_is (file_bytes h d)
      (le-leb header_size (length (file_bytes h d)) (omega (arith, length_file)))
      (ap plain_header same ∙ p)
      (eq-eqb (padding_of (file_bytes h d)) 0 (padding_again h w d))
      ((λ i. holds_samples (same i).samples (n i)) ∙ q)
      ∙ ap (read_left 0) same

-- for every header within its widths and data for which writing succeeds, reading the bytes written gives the same header and data
pub header_again : (h : DspHeader) (d out : List ℕ) → Within h → (write_call h d out).number ≡ 0
    → (let written = take (write_call h d out).size (write_call h d out).output in (read_call written ≡ read_left 0 h) × (data_of written ≡ d))
header_again h d out w e =
    let s = succeeds h d out e in
    let is = write_is h d out s.plain s.holds s.room in
    let written : take (write_call h d out).size (write_call h d out).output ≡ file_bytes h d =
    (λ i. take (is i).size (is i).output) ∙ front h d out in
    (ap read_call written ∙ read_again h d w s.plain s.holds, ap data_of written ∙ data_again h d)
