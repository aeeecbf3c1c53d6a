-- `gains::send_gains` meets its contract: the two parts of the gains that are lent are those of the definition. Assumes nothing.
use mathlib.Core.Path.{◌∙◌}
use Prim.Native.Nat.{◌+◌, ◌*◌}
use lib.ListN.{length}
use Rattle.rows.specs.Lent.{part_cut}
use Rattle.sends.specs.Sends.{spread, gain_at}
use Rattle.voice_sends.proofs.gains.send_gains.Goals as goal

pub returns : goal.returns
returns c =
    let a = c.args in
    c.send_moving.ensures
    ∙ (λ i. spread (gain_at (part_cut a.gains.now (a.id * 48 + 24) 24 i)) (gain_at (part_cut a.gains.now (a.id * 48) 24 i)) a.offset (length a.row.now) a.row.now a.count a.buffers.now)
