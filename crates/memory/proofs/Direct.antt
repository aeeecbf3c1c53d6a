-- A read of no more bytes than the stretch of its address has is a part of the slice. Assumes nothing.
use Prim.Native.Nat.{ℕ, ◌+◌, ◌-◌, ◌%◌, ◌^◌, ◌≤◌, ◌<◌, min}
use native.Mathlib.Omega.{arith}
use mathlib.Core.Bool.{true, false}
use mathlib.Core.Logic.{⊎_elim}
use mathlib.Core.List.{List, [], ◌∷◌, ◌++◌, append-nil}
use mathlib.Core.Path.{◌≡◌, ap, sym, subst, ◌∙◌}
use borrow.Author.Tests.{eq-eqb}
use lib.ListN.{length, take, drop}
use Rattle.ranges.specs.Ranges.{Range, has, room_in, end_of, left_of, readable_of}
use Rattle.ranges.specs.Ascending.{Ascending, none, more}
use Rattle.std.proofs.Common.{Some}
use Rattle.std.proofs.lemmas.Option.{none-some, cond_some}
use Rattle.ranges.specs.declared.Stretch.{Stretch}
use Rattle.ranges.specs.Stretch.{stretch_of}
use Rattle.ranges.proofs.Tests.{true_or_false}
use Rattle.ranges.proofs.Holds.{held_where}
use Rattle.ranges.proofs.Laws.{left_here, left_there, left_none}
use Rattle.ranges.proofs.Stretches.{stretch_here, stretch_there}
use Rattle.memory.specs.Memory.{bytes_of, read_of}
use Rattle.memory.proofs.Pieces.{piece_here, bytes_here, bytes_there, bytes_none, read_of_lem}

-- a read of `len` bytes that are those of the slice from `at` on
record Direct (rs : List Range) (m : List ℕ) (addr len at : ℕ) : Type 0 where
  inside : at + len ≤ length m
  left : left_of rs addr len ≡ 0
  bytes : bytes_of rs m addr len ≡ take len (drop at m)

module _ (m : List ℕ) (r : Range) (rs : List Range) (addr len : ℕ) where
  -- in the first range
  direct_here : length m < 2 ^ 64 → r.start + r.size ≤ length m → end_of r ≤ 2 ^ 63 → has r addr ≡ true → len ≤ room_in r addr
      → Direct (r ∷ rs) m addr len ((r.start + (addr - r.base)) % 2 ^ 64)
  direct_here short part near t fits =
      let w = held_where r.base r.size addr t in
      let at = r.start + (addr - r.base) in
      let place : at % 2 ^ 64 ≡ at = omega arith in
      let gone : len - room_in r addr ≡ 0 = omega arith in
      let all : min len (room_in r addr) ≡ len = omega arith in
      let after = ap (bytes_of rs m (end_of r)) gone ∙ bytes_none rs m (end_of r) in
      record {
        inside = omega arith;
        left = left_here r rs addr len near t ∙ ap (left_of rs (end_of r)) gone ∙ left_none rs (end_of r);
        bytes = bytes_here r rs m addr len near t
            ∙ (λ i. piece_here r m addr len t i ++ after i)
            ∙ append-nil (take (min len (room_in r addr)) (drop at m))
            ∙ (λ i. take (all i) (drop (sym place i) m));
      }

  -- in those after it
  direct_there : {at : ℕ} → has r addr ≡ false → Direct rs m addr len at → Direct (r ∷ rs) m addr len at
  direct_there t d = record {
    inside = d.inside;
    left = left_there r rs addr len t ∙ d.left;
    bytes = bytes_there r rs m addr len t ∙ d.bytes;
  }

direct : (m : List ℕ) → length m < 2 ^ 64 → {e : ℕ} {rs : List Range} → Ascending (length m) e rs → (addr len : ℕ) {s : Stretch}
    → stretch_of rs addr ≡ Some s → len ≤ s.room → Direct rs m addr len s.at
unfolding stretch_of
direct m short none addr len {s} is fits = absurd (none-some s is)
direct m short (more {r = r} {rs = rs} a p q later) addr len {s} is fits =
    ⊎_elim
    (λ (t : has r addr ≡ true).
    let here = (cond_some true _ _ (sym (stretch_here r rs addr t) ∙ is)).1 in
    subst (λ (x : Stretch). Direct (r ∷ rs) m addr len x.at) here
    (direct_here m r rs addr len short p q t (subst (λ (x : Stretch). len ≤ x.room) (sym here) fits)))
    (λ (t : has r addr ≡ false).
    direct_there m r rs addr len t (direct m short later addr len (sym (stretch_there r rs addr t) ∙ is) fits))
    (true_or_false (has r addr))

-- so it succeeds, and gives that part
pub direct_read : (m : List ℕ) → length m < 2 ^ 64 → {e : ℕ} {rs : List Range} → Ascending (length m) e rs → (addr len : ℕ) {s : Stretch}
    → stretch_of rs addr ≡ Some s → len ≤ s.room
    → (s.at + len ≤ length m) × (readable_of rs addr len ≡ true) × (read_of rs m addr len ≡ take len (drop s.at m))
unfolding readable_of
direct_read m short {rs = rs} ascending addr len is fits =
    let d = direct m short ascending addr len is fits in
    (d.inside, eq-eqb (left_of rs addr len) 0 d.left, read_of_lem m rs addr len d.left ∙ d.bytes)

-- a read of no byte succeeds at any address, also at one that no range has, and gives none
pub empty_read : (m : List ℕ) (rs : List Range) (addr : ℕ) → (readable_of rs addr 0 ≡ true) × (read_of rs m addr 0 ≡ [])
unfolding readable_of
empty_read m rs addr =
    let none = left_none rs addr in
    (eq-eqb (left_of rs addr 0) 0 none, read_of_lem m rs addr 0 none ∙ bytes_none rs m addr)
