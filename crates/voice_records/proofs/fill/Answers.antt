-- `voice_records::fill` meets its contract: each field is what its call gives, or the voice's. Assumes nothing.
use Rattle.std.proofs.Common.{ℕ, ◌%◌, true, ap, ◌∙◌}
use Rattle.voice.specs.Play.{set_play}
use Rattle.voice_records.specs.Record.{recorded_buffers, filled}
use Rattle.voice_records.proofs.fill.Goals as goal

pub returns : goal.returns
unfolding filled
returns c =
    let v = c.args.v in
    let plays = c.set_play.ensures ∙ ap (set_play v.play) c.byte_at.ensures in
    let waves = c.recorded_buffers-buffers.ensures ∙ ap (λ (f : ℕ). recorded_buffers f c.args.p.now v.buffers) c.byte_at-format.ensures in
    λ i. record {
      in_use = true;
      fresh = v.fresh;
      play = plays i;
      format = c.byte_at-format.ensures i;
      sample_rate = c.u32_at.ensures i;
      channels = c.record_channels.ensures i;
      pitch = c.f32_at.ensures i;
      volume = c.f32_at-2.ensures i;
      previous_volume = v.previous_volume;
      queued = c.u32_at-2.ensures i;
      base_index = c.u32_at-3.ensures i % 4;
      flush = c.flush_of.ensures i;
      decoding = c.decoding_of.ensures i;
      mix_id = c.u32_at-4.ensures i;
      splitter_id = c.splitter_of.ensures i;
      channel_ids = c.channel_ids-ids.ensures i;
      data_source = c.u64_at.ensures i;
      buffers = waves i;
      valid = v.valid;
      index = v.index;
      consumed = v.consumed;
      offset = v.offset;
      played = v.played;
      loops = v.loops;
      fraction = v.fraction;
    }
