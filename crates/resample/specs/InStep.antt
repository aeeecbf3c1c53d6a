-- At ratio 1 and fraction 0 every place is its output's own number, for any samples. Assumes nothing.
use Rattle.std.specs.Prelude.{◌≡◌, ℕ, ◌+◌, ◌^◌, ◌<◌, ◌≤◌, T, List, length, from_bits, slice_index_or, to_bits, Float}
use Rattle.std.proofs.Common.{sym, ◌∙◌, arith}
use Rattle.std.specs.Float.{nan, binary32}
use Rattle.std.specs.Float.Ieee.{fits}
use Rattle.std.specs.Float.Ieee.Bits.{of_bits-to_bits}
use Rattle.floats.specs.Defs.{zero32, one}
use Rattle.resample.specs.Defs.{next_of, cubic, sample_at}
use Rattle.resample.specs.Exact.{sample_at_zero, next_exact}

-- ratio 1, fraction 0, places that are floats, and points enough
pub record InStep (points count : ℕ) (ratio fraction : Float) : Type 0 where
  pub one_each : ratio ≡ one
  pub from_zero : fraction ≡ zero32
  pub floats : count ≤ 2 ^ 24
  pub enough : count + 3 ≤ points

-- a float by its bits
pub by_bits : (x y : Float) → T (fits binary32 x) → from_bits binary32 (to_bits binary32 x) ≡ y → x ≡ y
by_bits x y f e = sym (of_bits-to_bits binary32 x f) ∙ e

module _ (points : List Float) (count : ℕ) (ratio fraction : Float) (s : InStep (length points) count ratio fraction) where
  pub in_step_sample : (k : ℕ) → k < count
      → sample_at points ratio fraction k ≡ cubic (slice_index_or points k nan) (slice_index_or points (k + 1) nan) (slice_index_or points (k + 2) nan) (slice_index_or points (k + 3) nan) zero32
  in_step_sample k h =
      (λ i. sample_at points (s.one_each i) (s.from_zero i) k)
      ∙ sample_at_zero points k (omega (arith, s.enough)) (omega (arith, s.floats))

  pub in_step_next : zero32 ≡ next_of fraction ratio count
  in_step_next = sym ((λ i. next_of (s.from_zero i) (s.one_each i) count) ∙ next_exact count s.floats)
