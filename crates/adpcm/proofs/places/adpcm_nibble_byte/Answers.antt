-- `adpcm::adpcm_nibble_byte` meets its contract: half of an even nibble is the size, and half of an odd one is 1 less. Assumes nothing.
use mathlib.Core.Path.{◌≡◌, sym, ◌∙◌}
use mathlib.Core.Bool.{true, false}
use Prim.Native.Nat.{ℕ, ◌/◌, ◌%◌}
use borrow.Author.Tests.{eqb-true, eqb-false}
use native.Mathlib.Omega.{arith}
use lib.Dec.{eqb}
use Rattle.adpcm.specs.Places.{nibble_of, size_of, size_even, size_odd}
use Rattle.adpcm.proofs.places.adpcm_nibble_byte.Goals as goal
use Rattle.adpcm.proofs.places.adpcm_nibble_byte.Goals.{After-is_high}

module _ (c : After-is_high) where
  abbrev s : ℕ
  s = c.args.s.0

  parity : c.is_high.result ≡ eqb (nibble_of s % 2) 0
  parity = c.is_high.ensures ∙ (λ i. eqb (c.adpcm_nibble.ensures i % 2) 0)

  size : c.adpcm_size-size.result.0 ≡ size_of s
  size = c.adpcm_size-size.ensures

  even : c.is_high.result ≡ true → size_of s ≡ nibble_of s / 2
  even h = size_even s (eqb-true (nibble_of s % 2) 0 (sym parity ∙ h))

  odd : c.is_high.result ≡ false → nibble_of s % 2 ≡ 1
  odd h = let n : nibble_of s % 2 ≡ 0 → ⊥ = eqb-false (nibble_of s % 2) 0 (sym parity ∙ h) in omega arith

pub before-requires : goal.before-requires
before-requires c = omega (arith, size c.before, size_odd (s c.before) (odd c.before c.if-is_high.false))

pub returns-then-is_high : goal.returns-then-is_high
returns-then-is_high c = size c.before ∙ even c.before c.if-is_high.true

pub returns-else-is_high : goal.returns-else-is_high
returns-else-is_high c = omega (arith, c.before-else-is_high.ensures, size c.before.before, size_odd (s c.before.before) (odd c.before.before c.if-is_high.false))
