use mathlib.Core.Path.{◌≡◌}
use Prim.Native.Nat.{ℕ, ◌*◌, ◌≤◌}
use Rattle.row_tests.specs.Tests.{Passing}
use Rattle.row_tests.specs.Desk.{mix_whole, buffers_before}
use Rattle.row_tests.proofs.desk.mixes_whole.Given as goal

abbrev pub invariant-loop-m : goal.invariant-loop-m
invariant-loop-m l = Passing (λ (m' : ℕ). mix_whole l.mixes m' (buffers_before l.mixes m')) l.n l.m × (l.offset ≡ buffers_before l.mixes l.m) × (l.offset ≤ l.m * 24)
