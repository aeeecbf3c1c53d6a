-- `gains::send_channel` meets its contract: the send with the mix's offset and count, then the row that is taken. Assumes nothing.
use mathlib.Core.Path.{◌∙◌}
use Prim.Native.Nat.{◌+◌, ◌*◌}
use Rattle.rows.specs.Rows.{part}
use Rattle.sends.specs.Sends.{spread, gain_at}
use Rattle.voice_sends.specs.Sending.{passing, sent, taken}
use Rattle.voice_sends.proofs.gains.send_channel.Goals as goal

pub returns : goal.returns
unfolding sent
returns c =
    let a = c.args in
    let g = a.gains.now in
    (λ i. passing (c.send_gains.ensures i) (c.take_row.ensures i))
    ∙ (λ i. passing (spread (gain_at (part 24 (a.id * 48 + 24) g)) (gain_at (part 24 (a.id * 48) g)) (c.offset-offset.ensures.0 i) (c.row.ensures.long i) (c.row.ensures.row i) (c.buffer_count-count.ensures.0 i) a.buffers.now) (taken a.id g))
