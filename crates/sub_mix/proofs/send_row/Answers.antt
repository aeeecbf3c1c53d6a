-- `sub_mix::send_row` meets its contract: the row is copied and sent, or is outside. Assumes nothing.
use mathlib.Core.Path.{refl, sym}
use native.Mathlib.Omega.{arith}
use Rattle.sub_mix.specs.Laws.{row_sent, row_outside}
use Rattle.sub_mix.proofs.send_row.Goals as goal

pub returns-then-end-buffers : goal.returns-then-end-buffers
returns-then-end-buffers c = sym (row_outside _ _ _ _ _ _ _ (omega (arith, c.if-end-buffers.true)))

pub returns : goal.returns
returns c =
    row_sent _ _ _ _ _ _ _ (omega (arith, c.if-end-buffers.false)) c.offset-offset.ensures.0 c.buffer_count-count.ensures.0
    refl c.copy_out.ensures c.send_scaled.ensures
