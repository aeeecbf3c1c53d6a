-- `WaveBuffer::parse` meets its contract: each field is what its reader gives. Assumes nothing.
use Rattle.voice.specs.Laws.{parse_made}
use Rattle.voice.proofs.wave.WaveBuffer.parse.Goals as goal

pub returns : goal.returns
returns c =
    parse_made _
    c.u64_at.ensures
    c.u64_at-2.ensures
    c.u32_at.ensures
    c.u32_at-2.ensures
    c.flag_at.ensures
    c.flag_at-2.ensures
    c.u32_at-3.ensures
    c.u64_at-3.ensures
    c.u32_at-4.ensures
    c.u32_at-5.ensures
