-- Each byte of a read is the one at its address, so that a read cut in two is two reads. Assumes nothing.
use Prim.Native.Nat.{ℕ, ◌+◌, ◌-◌, ◌≤◌, ◌<◌, min}
use native.Mathlib.Omega.{arith}
use mathlib.Core.Bool.{true, false}
use mathlib.Core.Logic.{⊎_elim}
use mathlib.Core.List.{List, ◌∷◌, ◌++◌}
use mathlib.Core.Path.{◌≡◌, ap, sym, ◌∙◌}
use borrow.Author.Tests.{eqb-true, eq-eqb}
use lib.ListN.{length, drop, get_or, length-append, get_or-append}
use lib.Seq.{ext_get_or, get_or-take, get_or-drop, get_or-append-add}
use Rattle.ranges.specs.Ranges.{Range, has, room_in, end_of, left_of, readable_of}
use Rattle.ranges.specs.Ascending.{Ascending, none, more}
use Rattle.ranges.proofs.Tests.{true_or_false, lt_or_le}
use Rattle.ranges.proofs.Holds.{holds_inside, holds_past, held_where}
use Rattle.ranges.proofs.Laws.{left_here, left_there}
use Rattle.ranges.proofs.Inside.{begins_above, cut_first, cut_second}
use Rattle.memory.specs.Memory.{piece_of, bytes_of, read_of, byte_of}
use Rattle.memory.proofs.Pieces.{piece_here, piece_wide, bytes_here, bytes_there, bytes_count, read_of_lem}

-- ---- the byte at an address: in the first range, or in those after it

module _ (r : Range) (rs : List Range) (m : List ℕ) (x : ℕ) where
  pub byte_here : has r x ≡ true → byte_of (r ∷ rs) m x ≡ get_or m (r.start + (x - r.base)) 0
  unfolding byte_of
  byte_here t = rw t

  pub byte_there : has r x ≡ false → byte_of (r ∷ rs) m x ≡ byte_of rs m x
  unfolding byte_of
  byte_there t = rw t

  byte_past : end_of r ≤ x → byte_of (r ∷ rs) m x ≡ byte_of rs m x
  byte_past h = byte_there (holds_past r.base r.size x (omega arith) (omega arith))

-- ---- each byte of a read is the one at its address

-- a byte of the piece that a range gives
piece_byte : (r : Range) (rs : List Range) (m : List ℕ) (at left j : ℕ) → has r at ≡ true → j < min left (room_in r at)
    → get_or (piece_of r m at left) j 0 ≡ byte_of (r ∷ rs) m (at + j)
piece_byte r rs m at left j t l =
    let w = held_where r.base r.size at t in
    let from = r.start + (at - r.base) in
    let place : from + j ≡ r.start + (at + j - r.base) = omega arith in
    ap (λ (bs : List ℕ). get_or bs j 0) (piece_here r m at left t)
    ∙ get_or-take (min left (room_in r at)) (drop from m) j 0 l
    ∙ get_or-drop from m j 0
    ∙ ap (λ (k : ℕ). get_or m k 0) place
    ∙ sym (byte_here r rs m (at + j) (holds_inside r.base r.size (at + j) (omega arith) (omega arith)))

pub read_byte : (m : List ℕ) {e : ℕ} {rs : List Range} → Ascending (length m) e rs → (at left j : ℕ) → left_of rs at left ≡ 0 → j < left
    → get_or (bytes_of rs m at left) j 0 ≡ byte_of rs m (at + j)
unfolding left_of
read_byte m none at left j h l = absurd (omega arith)
read_byte m (more {r = r} {rs = rs} a p q s) at left j h l =
    ⊎_elim
    (λ (t : has r at ≡ true).
    let w = held_where r.base r.size at t in
    let wide = piece_wide r m at left p t in
    let piece = piece_of r m at left in
    let room = room_in r at in
    let rest = bytes_of rs m (end_of r) (left - room) in
    ap (λ (bs : List ℕ). get_or bs j 0) (bytes_here r rs m at left q t)
    ∙ ⊎_elim
    (λ (k : j < room).
    get_or-append piece rest 0 j (omega arith) ∙ piece_byte r rs m at left j t (omega arith))
    (λ (g : room ≤ j).
    let split : j ≡ length piece + (j - room) = omega arith in
    let along : end_of r + (j - room) ≡ at + j = omega arith in
    ap (λ (k : ℕ). get_or (piece ++ rest) k 0) split
    ∙ get_or-append-add piece rest (j - room) 0
    ∙ read_byte m s (end_of r) (left - room) (j - room) (sym (left_here r rs at left q t) ∙ h) (omega arith)
    ∙ ap (byte_of rs m) along
    ∙ sym (byte_past r rs m (at + j) (omega arith)))
    (lt_or_le j room))
    (λ (t : has r at ≡ false).
    let z = sym (left_there r rs at left t) ∙ h in
    let g = begins_above s at left (omega arith) z in
    ap (λ (bs : List ℕ). get_or bs j 0) (bytes_there r rs m at left t)
    ∙ read_byte m s at left j z l
    ∙ sym (byte_past r rs m (at + j) (omega arith)))
    (true_or_false (has r at))

-- ---- a read cut in two

bytes_cut : (m : List ℕ) {e : ℕ} {rs : List Range} → Ascending (length m) e rs → (at a b : ℕ) → left_of rs at (a + b) ≡ 0
    → bytes_of rs m at (a + b) ≡ bytes_of rs m at a ++ bytes_of rs m (at + a) b
bytes_cut m {rs = rs} s at a b h =
    let first = bytes_of rs m at a in
    let second = bytes_of rs m (at + a) b in
    let la = bytes_count m s at a (cut_first s at a b h) in
    let lb = bytes_count m s (at + a) b (cut_second s at a b h) in
    let all = bytes_count m s at (a + b) h in
    ext_get_or 0 (bytes_of rs m at (a + b)) (first ++ second) (all ∙ sym (length-append first second ∙ (λ i. la i + lb i)))
    (λ j l.
    let k : j < a + b = rw all at l in
    read_byte m s at (a + b) j h k
    ∙ ⊎_elim
    (λ (p : j < a). sym (get_or-append first second 0 j (omega arith) ∙ read_byte m s at a j (cut_first s at a b h) p))
    (λ (q : a ≤ j).
    let split : j ≡ length first + (j - a) = omega arith in
    let along : at + a + (j - a) ≡ at + j = omega arith in
    sym
    (ap (λ (i : ℕ). get_or (first ++ second) i 0) split
    ∙ get_or-append-add first second (j - a) 0
    ∙ read_byte m s (at + a) b (j - a) (cut_second s at a b h) (omega arith)
    ∙ ap (byte_of rs m) along))
    (lt_or_le j a))

pub read_cut : (m : List ℕ) {e : ℕ} {rs : List Range} → Ascending (length m) e rs → (at a b : ℕ) → readable_of rs at (a + b) ≡ true
    → read_of rs m at (a + b) ≡ read_of rs m at a ++ read_of rs m (at + a) b
unfolding readable_of
read_cut m {rs = rs} s at a b h =
    let z = eqb-true (left_of rs at (a + b)) 0 h in
    let first = read_of_lem m rs at a (cut_first s at a b z) in
    let second = read_of_lem m rs (at + a) b (cut_second s at a b z) in
    read_of_lem m rs at (a + b) z ∙ bytes_cut m s at a b z ∙ (λ i. sym first i ++ sym second i)

-- both succeed
pub readable_cut : {n e : ℕ} {rs : List Range} → Ascending n e rs → (at a b : ℕ) → readable_of rs at (a + b) ≡ true
    → (readable_of rs at a ≡ true) × (readable_of rs (at + a) b ≡ true)
unfolding readable_of
readable_cut {rs = rs} s at a b h =
    let z = eqb-true (left_of rs at (a + b)) 0 h in
    (eq-eqb (left_of rs at a) 0 (cut_first s at a b z), eq-eqb (left_of rs (at + a) b) 0 (cut_second s at a b z))
