-- `mixing::final_volume` meets its contract: the first samples are lent and scaled. Assumes nothing.
use mathlib.Core.Path.{sym}
use lib.Ieee.{of_bits}
use Rattle.mixing.specs.Laws.{final_one, final_from}
use Rattle.mixing.proofs.final_volume.Goals as goal

pub returns-then-v : goal.returns-then-v
unfolding of_bits
returns-then-v c = sym (final_one _ _ _ _ (rw c.volume-v.ensures at c.if-v.true))

pub returns : goal.returns
unfolding of_bits
returns c =
    let v = c.volume-v.ensures in
    final_from _ _ _ _ (rw v at c.if-v.false) c.buffer_count.ensures.0 c.min-k.ensures (rw v at c.scale.ensures)
