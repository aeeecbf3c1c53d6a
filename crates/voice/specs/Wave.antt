-- Wave buffers (mixer.rs `WaveBuffer`): a record's fields, and whether its offsets lie within its size.
use Rattle.std.specs.Prelude.{ℕ, ◌*◌, Bool, true, cond, ◌&&◌, List, ◌==◌, nat_le}
use Rattle.adpcm.specs.Places.{size_of}
use Rattle.fields.specs.Fields.{field_at, flag_at}
use Rattle.voice.specs.declared.wave.WaveBuffer.{WaveBuffer}

unfoldable pub parse_of : List ℕ → WaveBuffer
parse_of w = record {
  addr = field_at 8 w 0x00;
  size = field_at 8 w 0x08;
  start = field_at 4 w 0x10;
  end = field_at 4 w 0x14;
  looping = flag_at w 0x18;
  end_of_stream = flag_at w 0x19;
  loop_count = field_at 4 w 0x1c;
  context = field_at 8 w 0x20;
  loop_start = field_at 4 w 0x30;
  loop_end = field_at 4 w 0x34;
  pending = true;
}

-- the bytes that the samples before n take, by format: 2 and 4 for each, ADPCM's, and none where the format is not known
unfoldable pub bytes_before : ℕ → ℕ → ℕ
bytes_before format n = cond (format == 2) (n * 2) (cond (format == 5) (n * 4) (cond (format == 6) (size_of n) 0))

abbrev pub both_fit : ℕ → ℕ → ℕ → Bool
both_fit start end size = nat_le start size && nat_le end size

unfoldable pub offsets_valid : WaveBuffer → ℕ → Bool
unfolding bytes_before
offsets_valid w format = both_fit (bytes_before format w.start) (bytes_before format w.end) w.size
