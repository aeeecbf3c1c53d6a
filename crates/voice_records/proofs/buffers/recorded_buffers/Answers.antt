-- `voice_records::recorded_buffers` meets its contract: one call for each buffer. Assumes nothing.
use Rattle.voice_records.specs.Made.{buffers_made}
use Rattle.voice_records.proofs.buffers.recorded_buffers.Goals as goal

pub returns : goal.returns
returns c =
    buffers_made _ _ _
    c.recorded_buffer.ensures
    c.recorded_buffer-2.ensures
    c.recorded_buffer-3.ensures
    c.recorded_buffer-4.ensures
