-- `sound::place` meets its contract: six samples of four bytes in each of 2^32 frames fit. Assumes nothing.
use Prim.Native.Nat.{◌*◌, ◌+◌, ◌≤◌, ◌^◌}
use native.Mathlib.Omega.{arith}
use native.Mathlib.Nat.{mul-le-mul}
use Rattle.sound.proofs.pcm.place.Goals as goal
use Rattle.sound.proofs.pcm.place.Goals.{Start}

frames : (c : Start) → c.args.j * c.args.channels ≤ 2 ^ 32 * 6
frames c = let h : c.args.j ≤ 2 ^ 32 = omega arith in mul-le-mul h c.requires.1

pub overflow_mul-result : goal.overflow_mul-result
overflow_mul-result c = omega (arith, frames c)

pub overflow_add-result : goal.overflow_add-result
overflow_add-result c = omega (arith, frames c)

pub overflow_mul-result-2 : goal.overflow_mul-result-2
overflow_mul-result-2 c =
    let h : c.args.j * c.args.channels + c.args.c ≤ 2 ^ 32 * 7 = omega (arith, frames c) in
    omega (arith, mul-le-mul h c.requires.3)
