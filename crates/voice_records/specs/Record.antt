-- One voice's record of an update, 0x170 bytes, and what it makes of the voice (mixer.rs `update_voices`). Assumes nothing.
use Rattle.std.specs.Prelude.{ℕ, ◌+◌, ◌-◌, ◌*◌, ◌%◌, ◌^◌, min, max, Bool, true, false, cond, ◌&&◌, List, [], ◌∷◌, pos, ◌==◌, from_bits, nat_le, slice_index_or}
use Rattle.std.specs.Float.{fin, binary32}
use Rattle.fields.specs.Fields.{field_at, flag_at, positive, section_of}
use Rattle.voice.specs.declared.play.Play.TheVariants.{Stopped}
use Rattle.voice.specs.declared.wave.WaveBuffer.{WaveBuffer}
use Rattle.voice.specs.declared.Voice.{Voice}
use Rattle.voice.specs.Play.{set_play}
use Rattle.voice.specs.Wave.{parse_of, offsets_valid}
use Rattle.voice.specs.Queue.{no_buffer}

-- the game uses the voice
unfoldable pub record_used : List ℕ → Bool
record_used p = flag_at p 0x09

-- the game has just taken the voice
unfoldable pub record_new : List ℕ → Bool
record_new p = flag_at p 0x08

-- the Rust's `Voice { fresh: true, ..Voice::default() }`
unfoldable pub new_voice : Voice
new_voice = record {
  in_use = false;
  fresh = true;
  play = Stopped;
  format = 0;
  sample_rate = 0;
  channels = 0;
  pitch = fin false 0 (pos 0);
  volume = fin false 0 (pos 0);
  previous_volume = fin false 0 (pos 0);
  queued = 0;
  base_index = 0;
  flush = 0;
  decoding = 0;
  mix_id = 0;
  splitter_id = 0;
  channel_ids = 0 ∷ 0 ∷ 0 ∷ 0 ∷ 0 ∷ 0 ∷ [];
  data_source = 0;
  buffers = no_buffer ∷ no_buffer ∷ no_buffer ∷ no_buffer ∷ [];
  valid = false ∷ false ∷ false ∷ false ∷ [];
  index = 0;
  consumed = 0;
  offset = 0;
  played = 0;
  loops = 0;
  fraction = fin false 0 (pos 0);
}

-- the voice that the record's fields are set in: a new one, or the one that was
unfoldable pub renewed : Bool → Voice → Voice
unfolding new_voice
renewed true v = new_voice
renewed false v = v

-- ---- numbers of the record

-- 1 to 6
abbrev pub channels_of : ℕ → ℕ
channels_of n = max 1 (min n 6)

-- the channels that the voice plays
abbrev pub record_channels : List ℕ → ℕ
record_channels p = channels_of (field_at 4 p 0x18)

-- a channel resource: of those past the last, the last
unfoldable pub channel_id : ℕ → ℕ → ℕ
unfolding positive
channel_id count v = min (positive v) (count - 1)

-- the resource of channel c
unfoldable pub id_at : ℕ → List ℕ → ℕ → ℕ
unfolding channel_id
id_at count p c = channel_id count (field_at 4 p (0x140 + c * 4))

-- of all six
unfoldable pub ids_of : ℕ → List ℕ → List ℕ
unfolding id_at
ids_of count p = id_at count p 0 ∷ id_at count p 1 ∷ id_at count p 2 ∷ id_at count p 3 ∷ id_at count p 4 ∷ id_at count p 5 ∷ []

-- a number that records have from a revision on, and the one that stands before it
unfoldable pub since : ℕ → ℕ → ℕ → ℕ → ℕ
since least revision new old = cond (nat_le least revision) new old

unfoldable pub splitter_of : ℕ → List ℕ → ℕ
unfolding since
splitter_of revision p = since 2 revision (field_at 4 p 0x5c) 0xffffffff

-- buffers to flush: more by the record's byte, going round at 2^32
unfoldable pub flush_of : ℕ → List ℕ → ℕ → ℕ
unfolding since
flush_of revision p flush = since 5 revision ((flush + field_at 1 p 0x159) % 2 ^ 32) flush

unfoldable pub decoding_of : ℕ → List ℕ → ℕ → ℕ
unfolding since
decoding_of revision p decoding = since 5 revision (field_at 2 p 0x15c) decoding

-- ---- wave buffers

-- the record of wave buffer b
abbrev pub wave_record : List ℕ → ℕ → List ℕ
wave_record p b = section_of p (0x60 + b * 0x38) 0x38

-- whether it is taken in: it was not sent before, and its offsets lie within its size
unfoldable pub takes_wave : ℕ → List ℕ → Bool
takes_wave format w = field_at 1 w 0x1a == 0 && offsets_valid (parse_of w) format

unfoldable pub recorded_buffer : ℕ → List ℕ → ℕ → WaveBuffer → WaveBuffer
unfolding takes_wave
recorded_buffer format p b old = cond (takes_wave format (wave_record p b)) (parse_of (wave_record p b)) old

-- all four
unfoldable pub recorded_buffers : ℕ → List ℕ → List WaveBuffer → List WaveBuffer
unfolding recorded_buffer
recorded_buffers format p old =
    let buffer : ℕ → WaveBuffer = λ b. recorded_buffer format p b (slice_index_or old b no_buffer) in
    buffer 0 ∷ buffer 1 ∷ buffer 2 ∷ buffer 3 ∷ []

-- ---- the voice

-- the record's fields set in the voice
unfoldable pub filled : ℕ → ℕ → List ℕ → Voice → Voice
unfolding ids_of splitter_of flush_of decoding_of recorded_buffers
filled revision count p v = record {
  in_use = true;
  fresh = v.fresh;
  play = set_play v.play (field_at 1 p 0x0a);
  format = field_at 1 p 0x0b;
  sample_rate = field_at 4 p 0x0c;
  channels = record_channels p;
  pitch = from_bits binary32 (field_at 4 p 0x1c);
  volume = from_bits binary32 (field_at 4 p 0x20);
  previous_volume = v.previous_volume;
  queued = field_at 4 p 0x3c;
  base_index = field_at 4 p 0x40 % 4;
  flush = flush_of revision p v.flush;
  decoding = decoding_of revision p v.decoding;
  mix_id = field_at 4 p 0x58;
  splitter_id = splitter_of revision p;
  channel_ids = ids_of count p;
  data_source = field_at 8 p 0x48;
  buffers = recorded_buffers (field_at 1 p 0x0b) p v.buffers;
  valid = v.valid;
  index = v.index;
  consumed = v.consumed;
  offset = v.offset;
  played = v.played;
  loops = v.loops;
  fraction = v.fraction;
}

-- what the record makes of the voice
unfoldable pub recorded : ℕ → ℕ → List ℕ → Voice → Voice
unfolding record_new renewed filled
recorded revision count p v = filled revision count p (renewed (record_new p) v)
