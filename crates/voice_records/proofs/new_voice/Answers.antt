-- `voice_records::new_voice` meets its contract: each field is that of the definition. Assumes nothing.
use Rattle.std.proofs.Common.{true, false}
use lib.Ieee.{of_bits}
use Rattle.voice.specs.Queue.{no_buffer}
use Rattle.voice_records.specs.Record.{new_voice}
use Rattle.voice_records.proofs.Zeros.{all_alike, buffer_zero}
use Rattle.voice_records.proofs.new_voice.Goals as goal

pub returns : goal.returns
unfolding new_voice of_bits
returns c =
    let h = c.default.ensures in
    λ z. record {
      in_use = h.0 z;
      fresh = true;
      play = h.1.1.0 z;
      format = h.1.1.1.0 z;
      sample_rate = h.1.1.1.1.0 z;
      channels = h.1.1.1.1.1.0 z;
      pitch = h.1.1.1.1.1.1.0 z;
      volume = h.1.1.1.1.1.1.1.0 z;
      previous_volume = h.1.1.1.1.1.1.1.1.0 z;
      queued = h.1.1.1.1.1.1.1.1.1.0 z;
      base_index = h.1.1.1.1.1.1.1.1.1.1.0 z;
      flush = h.1.1.1.1.1.1.1.1.1.1.1.0 z;
      decoding = h.1.1.1.1.1.1.1.1.1.1.1.1.0 z;
      mix_id = h.1.1.1.1.1.1.1.1.1.1.1.1.1.0 z;
      splitter_id = h.1.1.1.1.1.1.1.1.1.1.1.1.1.1.0 z;
      channel_ids = all_alike 0 (λ x e. e) _ 6 (h.1.1.1.1.1.1.1.1.1.1.1.1.1.1.1.0) z;
      data_source = h.1.1.1.1.1.1.1.1.1.1.1.1.1.1.1.1.0 z;
      buffers = all_alike no_buffer buffer_zero _ 4 (h.1.1.1.1.1.1.1.1.1.1.1.1.1.1.1.1.1.0) z;
      valid = all_alike false (λ x e. e) _ 4 (h.1.1.1.1.1.1.1.1.1.1.1.1.1.1.1.1.1.1.0) z;
      index = h.1.1.1.1.1.1.1.1.1.1.1.1.1.1.1.1.1.1.1.0 z;
      consumed = h.1.1.1.1.1.1.1.1.1.1.1.1.1.1.1.1.1.1.1.1.0 z;
      offset = h.1.1.1.1.1.1.1.1.1.1.1.1.1.1.1.1.1.1.1.1.1.0 z;
      played = h.1.1.1.1.1.1.1.1.1.1.1.1.1.1.1.1.1.1.1.1.1.1.0 z;
      loops = h.1.1.1.1.1.1.1.1.1.1.1.1.1.1.1.1.1.1.1.1.1.1.1.0 z;
      fraction = h.1.1.1.1.1.1.1.1.1.1.1.1.1.1.1.1.1.1.1.1.1.1.1.1 z;
    }
