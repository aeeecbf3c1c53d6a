-- A read that the stretch of its address has room for is the part of the slice that begins there. Assumes nothing.
use Prim.Native.Nat.{ℕ, ◌+◌, ◌-◌, ◌^◌, ◌≤◌, ◌<◌}
use native.Mathlib.Omega.{arith}
use mathlib.Core.List.{List}
use mathlib.Core.Path.{◌≡◌, ap, sym, ◌∙◌}
use lib.ListN.{length, take, drop}
use Rattle.std.proofs.Common.{Some}
use Rattle.ranges.specs.declared.Stretch.{Stretch}
use Rattle.ranges.specs.Ranges.{Range}
use Rattle.ranges.specs.Ascending.{Ascending}
use Rattle.ranges.specs.Stretch.{stretch_of}
use Rattle.memory.specs.Memory.{read_of}
use Rattle.memory.proofs.Direct.{direct_read}

-- `end` is the part's, as the code computes it
pub record Lies (rs : List Range) (m : List ℕ) (addr len : ℕ) (s : Stretch) : Type 0 where
  pub inside : s.at + len ≤ length m
  pub bytes : {end : ℕ} → end ≡ s.at + len → take (end - s.at) (drop s.at m) ≡ read_of rs m addr len

pub lies : (m : List ℕ) → length m < 2 ^ 64 → {rs : List Range} → Ascending (length m) 0 rs → (addr len : ℕ) {s : Stretch}
    → stretch_of rs addr ≡ Some s → len ≤ s.room → Lies rs m addr len s
lies m short {rs} a addr len {s} e fits =
    let d = direct_read m short a addr len e fits in
    record {
      inside = d.0;
      bytes = λ {end} p. let n : end - s.at ≡ len = omega arith in ap (λ (k : ℕ). take k (drop s.at m)) n ∙ sym d.2;
    }
