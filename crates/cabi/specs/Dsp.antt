-- The headers and answers of the calls for DSP files as those of `dsp_file`. Definitions only.
use Rattle.std.specs.Prelude.{ℕ, cond, List, eqb, length, Result}
use Rattle.dsp_header.specs.declared.DspHeader.{DspHeader}
use Rattle.dsp_header.specs.Header.{header_size}
use Rattle.dsp_file.specs.declared.DspError.{DspError}
use Rattle.dsp_file.specs.File.{ReadOutcome, WriteOutcome, data_of, write_left, write_number, write_size}
use Rattle.cabi.specs.Decode.{context_in}
use Rattle.cabi.specs.declared.dsp.JeqllunaDsp.{JeqllunaDsp}
use Rattle.cabi.specs.declared.dsp.JeqllunaDspRead.{JeqllunaDspRead}
use Rattle.cabi.specs.declared.dsp.JeqllunaDspWritten.{JeqllunaDspWritten}

-- a header as the reader and the writer take it
abbrev pub header_in : JeqllunaDsp → DspHeader
header_in h = record {
  samples = h.samples;
  nibbles = h.nibbles;
  rate = h.rate;
  loop_flag = h.loop_flag;
  format = h.format;
  loop_start = h.loop_start;
  loop_end = h.loop_end;
  address = h.address;
  coefficients = h.coefficients;
  gain = h.gain;
  start_context = context_in h.start_context;
  loop_context = context_in h.loop_context;
}

-- ---- reading: the outcome, with where the data begins and how long it is

pub record Placed : Type 0 where
  pub number : ℕ
  pub header : DspHeader
  pub from : ℕ
  pub long : ℕ

-- both are 0 where the file is refused
abbrev pub placed : ReadOutcome → List ℕ → Placed
placed r file = record {
  number = r.number;
  header = r.header;
  from = cond (eqb r.number 0) header_size 0;
  long = cond (eqb r.number 0) (length (data_of file)) 0;
}

abbrev pub read_in : JeqllunaDspRead → Placed
read_in r = record { number = r.number; header = header_in r.header; from = r.«data»; long = r.data_len }

-- ---- writing

abbrev pub write_told : Result ℕ DspError → JeqllunaDspWritten
write_told a = record { number = write_number a; size = write_size a }

-- an answer with the output as the call left it
abbrev pub write_in : JeqllunaDspWritten → List ℕ → WriteOutcome
write_in r out = write_left r.number r.size out
