-- `nearest::step_size` meets its contract. Assumes nothing.
use mathlib.Core.Path.{◌≡◌, ◌∙◌}
use Prim.Native.Nat.{ℕ, ◌*◌, ◌%◌, ◌≤◌, ◌<◌, ◌^◌}
use native.Mathlib.Nat.{one-le-pow}
use native.Mathlib.Omega.{arith}
use lib.Pow.{pow_mono, shl_exact}
use Rattle.nearest.proofs.step_size.Goals as goal

power : (s : ℕ) → s < 16 → 1 * 2 ^ s % 2 ^ 32 ≡ 2 ^ s
power s h = shl_exact 1 s 32 (omega arith) (omega arith) ∙ omega arith

pub returns : goal.returns
returns c =
    let s = c.args.s in
    let h : s < 16 = omega arith in
    let m : 2 ^ s ≤ 2 ^ 15 = pow_mono {j = 15} (omega arith) in
    (power s h, omega (arith, power s h, one-le-pow s 2 (omega arith)), omega (arith, power s h))
