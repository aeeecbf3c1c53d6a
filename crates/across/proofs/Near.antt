-- A read of at least one byte that succeeds ends at 2^63 or before, so that no place in it goes round. Assumes nothing.
use Prim.Native.Nat.{ℕ, ◌+◌, ◌-◌, ◌^◌, ◌≤◌, ◌<◌}
use native.Mathlib.Omega.{arith}
use mathlib.Core.Bool.{Bool, true, false, cond, true≢false}
use mathlib.Core.List.{List}
use mathlib.Core.Path.{◌≡◌, refl, sym}
use borrow.Author.Tests.{eqb-true}
use Rattle.ranges.specs.Ranges.{Range, holds, left_of, readable_of, inside_of}
use Rattle.ranges.specs.Ascending.{Ascending, none, more}
use Rattle.ranges.proofs.Holds.{held_where}
use Rattle.ranges.proofs.Inside.{read_inside}

near_by : (r : Range) (rs : List Range) → r.base + r.size ≤ 2 ^ 63 → (x : ℕ) → (inside_of rs x ≡ true → x < 2 ^ 63)
    → (b : Bool) → holds r.base r.size x ≡ b → cond b true (inside_of rs x) ≡ true → x < 2 ^ 63
near_by r rs near x later true t h = omega (arith, held_where r.base r.size x t)
near_by r rs near x later false t h = later h

inside_near : {n e : ℕ} {rs : List Range} → Ascending n e rs → (x : ℕ) → inside_of rs x ≡ true → x < 2 ^ 63
unfolding inside_of
inside_near none x h = absurd (true≢false (sym h))
inside_near (more {r = r} {rs = rs} a p q s) x h = near_by r rs q x (inside_near s x) (holds r.base r.size x) refl h

pub read_near : {n e : ℕ} {rs : List Range} → Ascending n e rs → (addr len : ℕ) → 0 < len → readable_of rs addr len ≡ true
    → addr + len ≤ 2 ^ 63
unfolding readable_of
read_near {rs = rs} s addr len some h =
    let z = eqb-true (left_of rs addr len) 0 h in
    let last = inside_near s (addr + len - 1) (read_inside s addr len z (addr + len - 1) (omega arith) (omega arith)) in
    omega arith
