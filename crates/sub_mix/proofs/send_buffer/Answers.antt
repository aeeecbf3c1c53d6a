-- `sub_mix::send_buffer` meets its contract: the buffer is a row, and its volumes a part of the mix's. Assumes nothing.
use mathlib.Core.Path.{◌∙◌}
use Prim.Native.Nat.{◌+◌}
use lib.ListN.{length}
use Rattle.sub_mix.specs.SubMix.{send_row, send_buffer}
use Rattle.sub_mix.proofs.send_buffer.Goals as goal

pub returns : goal.returns
unfolding send_buffer
returns c =
    let a = c.args in
    let words = a.mixer.now.desk.mixes.words.now in
    let volume = c.volume-volume.ensures in
    let volumes = c.buffer_volumes-volumes.ensures.0 in
    c.send_row.ensures ∙ (λ j. send_row (length a.src.now) words (c.offset.ensures.0 j + a.i) a.to (volume j) (volumes j) a.buffers.now)
