-- What the questions answer, one by one, and the outcome that follows. Assumes nothing.
use Prim.Native.Nat.{ℕ, ◌-◌}
use mathlib.Core.Bool.{Bool, ◌&&◌}
use mathlib.Core.List.{List}
use mathlib.Core.Path.{◌≡◌, ap, ◌∙◌}
use lib.Dec.{leb, eqb}
use lib.ListN.{length, length-drop}
use Rattle.fields.specs.Fields.{rest_of}
use Rattle.dsp_header.specs.declared.DspHeader.{DspHeader}
use Rattle.dsp_header.specs.Header.{header_size, header_of, padding_of}
use Rattle.dsp_file.specs.File.{plain_header, plain_file, holds_samples, has_room, data_of, read_by, read_call, write_by, write_call}

-- the data is as long as the file less the header
pub length_data : (file : List ℕ) → length (data_of file) ≡ length file - header_size
unfolding data_of rest_of
length_data file = length-drop header_size file

pub read_is : (file : List ℕ) {a b c d : Bool} → leb header_size (length file) ≡ a → plain_header (header_of file) ≡ b
    → eqb (padding_of file) 0 ≡ c
    → holds_samples (header_of file).samples (length file - header_size) ≡ d → read_call file ≡ read_by (a && (b && c)) d file
unfolding plain_file read_call
read_is file p q r s = λ i. read_by (p i && (q i && r i)) ((ap (holds_samples (header_of file).samples) (length_data file) ∙ s) i) file

pub write_is : (h : DspHeader) (d out : List ℕ) {a b c : Bool} → plain_header h ≡ a → holds_samples h.samples (length d) ≡ b
    → has_room (length d) (length out) ≡ c → write_call h d out ≡ write_by a (b && c) h d out
unfolding write_call
write_is h d out p q r = λ i. write_by (p i) (q i && r i) h d out
