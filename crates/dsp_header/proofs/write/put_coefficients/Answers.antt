-- `dsp_header::write::put_coefficients` meets its contract: a number is put at each turn. Assumes nothing.
use mathlib.Core.Path.{◌≡◌, ap, ◌∙◌}
use mathlib.Core.List.{List}
use Prim.Native.Nat.{ℕ, ◌+◌, ◌*◌}
use native.Mathlib.Omega.{arith}
use lib.IntN.{ℤ, pos}
use lib.ListN.{length, get_or}
use Rattle.rows.specs.Rows.{put}
use Rattle.rows.specs.Tables.{join_begin, join_room, join_step, join_end}
use Rattle.dsp_header.proofs.Numbers.{bits_are}
use Rattle.dsp_header.specs.Header.{coefficient_bytes}
use Rattle.dsp_header.proofs.Sizes.{length_signed}
use Rattle.dsp_header.proofs.write.put_coefficients.Invariants.{bytes_at}
use Rattle.dsp_header.proofs.write.put_coefficients.Goals as goal

two : (c : List ℤ) (k : ℕ) → length (bytes_at c k) ≡ 2
two c k = length_signed (get_or c k (pos 0))

pub loop-k-init : goal.loop-k-init
loop-k-init c = join_begin _ _ _ _ _ (omega arith)

pub copy_in-requires : goal.copy_in-requires
copy_in-requires c =
    let e : length c.to_be_bytes.result ≡ 2 = ap length c.to_be_bytes.ensures in
    rw e (join_room c.loop-k.invariant (two c.args.c) (omega arith) (omega arith))

pub loop-k-preserved : goal.loop-k-preserved
loop-k-preserved c =
    let e = c.to_be_bytes.ensures ∙ bits_are (get_or c.args.c c.loop-k.k (pos 0)) (omega arith) in
    join_step c.loop-k.invariant (two c.args.c) (omega arith) (omega arith)
    (c.copy_in.ensures ∙ ap (put c.loop-k.out (c.args.o + c.loop-k.k * 2)) e)

pub returns : goal.returns
unfolding coefficient_bytes
returns c = join_end c.loop-k.invariant (two c.args.c) (omega arith)
