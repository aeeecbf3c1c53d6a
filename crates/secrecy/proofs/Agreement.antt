-- `Agree` asks for the bytes of every range, not of the first alone. Assumes nothing.
use mathlib.Core.Path.{◌≡◌, refl}
use mathlib.Core.List.Memᴰ
use mathlib.Core.List.{[], ◌∷◌}
use Prim.Native.Nat.{ℕ, ◌+◌}
use native.Mathlib.Omega.{arith}
use Rattle.ranges.specs.Ranges.{range}
use Rattle.alike.specs.Reads.{span}
use Rattle.secrecy.specs.Demand.{Agree}
use Rattle.secrecy.specs.Inputs.{base, two_ranges, laid_apart, pcm, memory_apart}

-- a byte of the second range that a span covers: the memories do not agree where it differs
pub second_range : Agree (two_ranges 0) (memory_apart 0x100 7 0) (memory_apart 0x200 7 0) (span base 4 ∷ []) → ⊥
unfolding laid_apart pcm
second_range agree =
    let one : ℕ = 1 in
    let two : ℕ = 2 in
    let e : one ≡ two =
    agree (range (base + 3) 0 5) (Memᴰ.tail (Memᴰ.head refl)) (base + 3) (omega arith) (omega arith)
    (span base 4, Memᴰ.head refl, (3, omega arith, refl)) in
    omega (arith, e)
