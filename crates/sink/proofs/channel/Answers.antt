-- `sink::channel` meets its contract: the row is lent where it is inside, else that of silence. Assumes nothing.
use mathlib.Core.Path.{sym}
use Prim.Native.Nat.{ℕ, ◌*◌, ◌+◌, ◌^◌, ◌≤◌, ◌<◌}
use native.Mathlib.Nat.{mul-le-mul, le_of_lt}
use native.Mathlib.Omega.{arith}
use borrow.Author.Tests.{le-leb, lt-leb}
use lib.Seq.{length-take-le}
use Rattle.rows.specs.Lent.{part_cut}
use Rattle.sink.specs.Sink.{row_or}
use Rattle.sink.proofs.channel.Goals as goal

place : (offset input n : ℕ) → offset < 2 ^ 16 → input < 2 ^ 32 → n < 2 ^ 24 → (offset + input) * n ≤ 2 ^ 57
place offset input n h k g =
    let b : offset + input ≤ 2 ^ 33 = omega arith in
    mul-le-mul b (le_of_lt g)

pub overflow_mul-at : goal.overflow_mul-at
overflow_mul-at c = omega (arith, place c.args.offset c.args.input c.args.n c.requires.0 (omega arith) c.requires.1)

pub overflow_add-end : goal.overflow_add-end
overflow_add-end c = omega (arith, place c.args.offset c.args.input c.args.n c.requires.0 (omega arith) c.requires.1)

pub returns-then-end-buffers : goal.returns-then-end-buffers
unfolding row_or
returns-then-end-buffers c = simp (le-leb _ _ c.if-end-buffers.true) (part_cut _ _ _)

pub slice_bounds-result-end-else-end-buffers : goal.slice_bounds-result-end-else-end-buffers
slice_bounds-result-end-else-end-buffers c = sym (length-take-le c.args.n c.args.silent.now c.requires.2)

pub returns-else-end-buffers : goal.returns-else-end-buffers
unfolding row_or
returns-else-end-buffers c = simp (lt-leb _ _ c.if-end-buffers.false)
