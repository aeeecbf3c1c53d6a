-- `ramps::ramp_row` meets its contract: the row that is lent to `ramp` comes back in its place. Assumes nothing.
use mathlib.Core.Path.{◌≡◌, ap, ◌∙◌}
use mathlib.Core.List.{List}
use Prim.Native.Nat.{ℕ, ◌+◌, ◌*◌, ◌≤◌}
use native.Mathlib.Omega.{arith}
use lib.ListN.{length}
use lib.Ieee.{Float}
use Rattle.rows.specs.Rows.{part}
use Rattle.rows.specs.Lent.{lent, returned, part_cut, returned_is}
use Rattle.gain.specs.Gain.{ramp_of}
use Rattle.voice_sends.specs.Sending.{ramped_row}
use Rattle.voice_sends.specs.Laws.{length_ramped_part}
use Rattle.voice_sends.proofs.ramps.ramp_row.Goals as goal

row_back : (from to : Float) (n c : ℕ) (out r : List Float) → c * n + n ≤ length out → r ≡ ramp_of from to (lent out (c * n) n)
    → returned out (c * n) n r ≡ ramped_row from to n c out
unfolding ramped_row
row_back from to n c out r h e =
    let q : r ≡ ramp_of from to (part n (c * n) out) = e ∙ ap (ramp_of from to) (part_cut out (c * n) n) in
    returned_is out (c * n) n h q (length_ramped_part from to n c out h)

pub returns : goal.returns
returns c =
    row_back c.args.from c.args.to c.args.n c.args.c c.args.out.now _ (omega arith) c.ramp.ensures
