-- What reading and writing a DSP file answer. Definitions only.
use Rattle.std.specs.Prelude.{ℕ, ◌+◌, Bool, true, false, ◌&&◌, leb, eqb, pos, length, Result, Ok, Err}
use mathlib.Core.List.{List, ◌++◌, replicate}
use Rattle.rows.specs.Rows.{put}
use Rattle.fields.specs.Fields.{rest_of}
use Rattle.adpcm.specs.Places.{size_of}
use Rattle.adpcm.specs.declared.context.AdpcmContext.{AdpcmContext}
use Rattle.dsp_header.specs.declared.DspHeader.{DspHeader}
use Rattle.dsp_header.specs.Header.{header_size, header_of, padding_of, header_bytes}
use Rattle.dsp_file.specs.declared.DspError.{DspError}
use Rattle.dsp_file.specs.declared.DspError.TheVariants.{Header, Short}

-- ---- the questions

-- the number of the one that refuses
abbrev pub number_of : DspError → ℕ
number_of Header = 11
number_of Short = 12

-- format and gain are 0
abbrev pub plain_values : ℕ → ℕ → Bool
plain_values format gain = eqb format 0 && eqb gain 0

-- question 11 of a header
unfoldable pub plain_header : DspHeader → Bool
plain_header h = plain_values h.format h.gain

-- question 11 of a file: it has a header, and format, gain and padding are 0
unfoldable pub plain_file : List ℕ → Bool
plain_file file = leb header_size (length file) && (plain_header (header_of file) && eqb (padding_of file) 0)

-- question 12: the data holds the samples
unfoldable pub holds_samples : ℕ → ℕ → Bool
holds_samples samples bytes = leb (size_of samples) bytes

-- and, in writing, the output has room
unfoldable pub has_room : ℕ → ℕ → Bool
has_room bytes output = leb (header_size + bytes) output

-- ---- reading

-- everything behind the header
unfoldable pub data_of : List ℕ → List ℕ
data_of file = rest_of file header_size

abbrev no_context : AdpcmContext
no_context = record { pred_scale = 0; history0 = pos 0; history1 = pos 0 }

abbrev pub no_header : DspHeader
no_header = record {
  samples = 0;
  nibbles = 0;
  rate = 0;
  loop_flag = 0;
  format = 0;
  loop_start = 0;
  loop_end = 0;
  address = 0;
  coefficients = replicate 16 (pos 0);
  gain = 0;
  start_context = no_context;
  loop_context = no_context;
}

-- what a reading answers
pub record ReadOutcome : Type 0 where
  pub number : ℕ
  pub header : DspHeader

abbrev pub read_left : ℕ → DspHeader → ReadOutcome
read_left n h = record { number = n; header = h }

-- by the two answers
abbrev pub read_by : Bool → Bool → List ℕ → ReadOutcome
read_by false holds file = read_left 11 no_header
read_by true false file = read_left 12 no_header
read_by true true file = read_left 0 (header_of file)

unfoldable pub read_call : List ℕ → ReadOutcome
read_call file = read_by (plain_file file) (holds_samples (header_of file).samples (length (data_of file))) file

-- a refusal, with a header of zeros
abbrev pub refused_by : DspError → ReadOutcome
refused_by e = read_left (number_of e) no_header

-- the number of an answer
abbrev pub read_number : Result DspHeader DspError → ℕ
read_number (Ok h) = 0
read_number (Err e) = number_of e

abbrev pub read_seen : Result DspHeader DspError → ReadOutcome
read_seen (Ok h) = read_left 0 h
read_seen (Err e) = refused_by e

-- ---- writing

-- what a writing answers and leaves
pub record WriteOutcome : Type 0 where
  pub number : ℕ
  pub size : ℕ
  pub output : List ℕ

abbrev pub write_left : ℕ → ℕ → List ℕ → WriteOutcome
write_left n size out = record { number = n; size = size; output = out }

abbrev pub file_bytes : DspHeader → List ℕ → List ℕ
file_bytes h d = header_bytes h ++ d

abbrev pub write_by : Bool → Bool → DspHeader → List ℕ → List ℕ → WriteOutcome
write_by false fits h d out = write_left 11 0 out
write_by true false h d out = write_left 12 0 out
write_by true true h d out = write_left 0 (header_size + length d) (put out 0 (file_bytes h d))

unfoldable pub write_call : DspHeader → List ℕ → List ℕ → WriteOutcome
write_call h d out = write_by (plain_header h) (holds_samples h.samples (length d) && has_room (length d) (length out)) h d out

-- an answer's number and size
abbrev pub write_number : Result ℕ DspError → ℕ
write_number (Ok n) = 0
write_number (Err e) = number_of e

abbrev pub write_size : Result ℕ DspError → ℕ
write_size (Ok n) = n
write_size (Err e) = 0

abbrev pub write_seen : Result ℕ DspError → List ℕ → WriteOutcome
write_seen a out = write_left (write_number a) (write_size a) out
