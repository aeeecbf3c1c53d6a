-- How many bytes the samples that a fetch wants can span. Assumes nothing.
use Prim.Native.Nat.{ℕ, ◌+◌, ◌-◌, ◌/◌, ◌≤◌}
use native.Mathlib.Omega.{arith}
use Rattle.adpcm.specs.Places.{nibble_of, size_of, by_case}

-- from the byte that holds the start's nibble to the end of at most 4,097 samples: 292 whole frames, and parts of two more
pub span_le : (start want : ℕ) → want ≤ 4097 → size_of (start + want) - nibble_of start / 2 ≤ 2342
unfolding size_of
span_le start want h =
    by_case start
    (λ p e. by_case (start + want) (λ q f. omega arith) (λ q f. omega arith))
    (λ p e. by_case (start + want) (λ q f. omega arith) (λ q f. omega arith))
