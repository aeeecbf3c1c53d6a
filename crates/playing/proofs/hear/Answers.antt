-- `playing::hear` meets its contract: the resampler writes the first n of what is lent from row c on. Assumes nothing.
use Prim.Native.Nat.{◌*◌, ◌≤◌}
use native.Mathlib.Omega.{arith}
use native.Mathlib.Nat.{mul-le-mul}
use Rattle.resample.specs.Laws.{length_resampled}
use Rattle.rows.specs.Lent.{front_returned}
use Rattle.playing.proofs.hear.Goals as goal

pub overflow_mul-at : goal.overflow_mul-at
overflow_mul-at c =
    let i : c.args.c ≤ 5 = omega arith in
    let j : c.args.n ≤ 256 = omega arith in
    let h = mul-le-mul i j in
    omega arith

pub returns : goal.returns
returns c =
    let long = length_resampled c.args.row.now c.args.ratio c.args.fraction c.args.n in
    front_returned c.args.out.now (c.args.c * c.args.n) (omega (arith, c.requires.c_bound.2)) c.args.n _ long c.requires.c_bound.2 c.resample.ensures.1
