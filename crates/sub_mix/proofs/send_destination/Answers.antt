-- `sub_mix::send_destination` meets its contract: the buffer is a row, and its volumes a part of the destination's. Assumes nothing.
use mathlib.Core.Path.{◌∙◌}
use lib.ListN.{length}
use Rattle.sub_mix.specs.SubMix.{send_row}
use Rattle.sub_mix.proofs.send_destination.Goals as goal

pub returns : goal.returns
returns c =
    let a = c.args in
    let words = a.mixer.now.desk.mixes.words.now in
    let volume = c.volume-volume.ensures in
    let volumes = c.destination_volumes-volumes.ensures.0 in
    c.send_row.ensures ∙ (λ j. send_row (length a.src.now) words (c.row_of-row.ensures.0 j) a.to (volume j) (volumes j) a.buffers.now)
