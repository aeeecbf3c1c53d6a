-- How many bytes the reads of sample memory take. Definitions only.
use Rattle.std.specs.Prelude.{ℕ}

-- an ADPCM context, and eight pairs of coefficients
abbrev pub context_bytes : ℕ
context_bytes = 6

abbrev pub table_bytes : ℕ
table_bytes = 32

-- at most: the ADPCM of one round, 4,097 samples; and a frame of PCM, six channels of four bytes
abbrev pub adpcm_bytes : ℕ
adpcm_bytes = 2342

abbrev pub frame_bytes : ℕ
frame_bytes = 24
