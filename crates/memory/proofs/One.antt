-- One range gives the answers of a memory that is one list of bytes with a base. Assumes nothing.
use Prim.Native.Nat.{ℕ, zero, suc, ◌+◌, ◌-◌, ◌≤◌, ◌<◌, min}
use native.Mathlib.Omega.{arith}
use mathlib.Core.Bool.{Bool, true, false, cond, ◌&&◌, and-eq-true_iff}
use mathlib.Core.Logic.{⊎_elim}
use mathlib.Core.List.{List, [], ◌∷◌, append-nil}
use mathlib.Core.Path.{◌≡◌, refl, ap, sym, ◌∙◌}
use borrow.Author.Tests.{leb-true, le-leb, lt-leb, eq-eqb, ne_eqb}
use lib.Dec.{leb, eqb}
use lib.ListN.{length, take, drop, length-drop}
use lib.Seq.{length-take-le, take-take, drop-drop, take-nil}
use Rattle.ranges.specs.Ranges.{range, holds, next_left, left_of, readable_of}
use Rattle.ranges.proofs.Tests.{true_or_false, lt_or_le}
use Rattle.ranges.proofs.Holds.{holds_inside, holds_below, holds_past}
use Rattle.ranges.proofs.Laws.{left_held, left_kept, readable_none}
use Rattle.memory.specs.Memory.{bytes_of, read_of}
use Rattle.memory.specs.One.{readable_one, read_one}
use Rattle.memory.proofs.Pieces.{piece_here}
use Rattle.memory.proofs.Bytes.{read_none, read_refused}

-- ---- whether a read of at least one byte succeeds in one list

module _ (base size addr len : ℕ) (some : 0 < len) where
  one_tests : readable_one base size addr len ≡ leb base addr && leb (addr + len) (base + size)
  unfolding readable_one
  one_tests = rw (ne_eqb len 0 (λ e. omega arith))

  one_below : addr < base → readable_one base size addr len ≡ false
  one_below h = one_tests ∙ rw (lt-leb base addr h)

  one_from : base ≤ addr → readable_one base size addr len ≡ leb (addr + len) (base + size)
  one_from h = one_tests ∙ rw (le-leb base addr h)

  one_where : readable_one base size addr len ≡ true → (base ≤ addr) × (addr + len ≤ base + size)
  one_where h =
      let w = (and-eq-true_iff (leb base addr) (leb (addr + len) (base + size))).0 (sym one_tests ∙ h) in
      (leb-true base addr w.0, leb-true (addr + len) (base + size) w.1)

-- ---- and in one range

module _ (base start size addr : ℕ) where
  -- by what the range leaves
  by_left : (len : ℕ) {left : ℕ} → next_left base size addr len ≡ left → readable_of (range base start size ∷ []) addr len ≡ eqb left 0
  unfolding readable_of left_of
  by_left len e = ap (λ (n : ℕ). eqb n 0) e

  module _ (len : ℕ) (some : 0 < len) where
    -- it does not have the address
    missed : holds base size addr ≡ false → readable_of (range base start size ∷ []) addr len ≡ false
    missed t = by_left len (left_kept base size addr len t) ∙ ne_eqb len 0 (λ e. omega arith)

    -- it has it
    met : base ≤ addr → addr - base < size → readable_of (range base start size ∷ []) addr len ≡ leb (addr + len) (base + size)
    met l h =
        let room = size - (addr - base) in
        by_left len (left_held base size addr len (holds_inside base size addr l h))
        ∙ ⊎_elim (λ (p : room < len). ne_eqb (len - room) 0 (λ z. omega arith) ∙ sym (lt-leb (addr + len) (base + size) (omega arith)))
        (λ (p : len ≤ room). eq-eqb (len - room) 0 (omega arith) ∙ sym (le-leb (addr + len) (base + size) (omega arith)))
        (lt_or_le room len)

    one_some : readable_of (range base start size ∷ []) addr len ≡ readable_one base size addr len
    one_some =
        ⊎_elim (λ (l : addr < base). missed (holds_below base size addr l) ∙ sym (one_below base size addr len some l))
        (λ (l : base ≤ addr).
        ⊎_elim (met l)
        (λ (h : size ≤ addr - base).
        missed (holds_past base size addr l h) ∙ sym (lt-leb (addr + len) (base + size) (omega arith)))
        (lt_or_le (addr - base) size)
        ∙ sym (one_from base size addr len some l))
        (lt_or_le addr base)

  pub one_readable : (len : ℕ) → readable_of (range base start size ∷ []) addr len ≡ readable_one base size addr len
  unfolding readable_one
  one_readable zero = readable_none (range base start size ∷ []) addr
  one_readable (suc n) = one_some (suc n) (omega arith)

-- ---- the bytes: of a range whose part is size bytes of m from start on

drop_take : (k n : ℕ) (l : List ℕ) → drop k (take n l) ≡ take (n - k) (drop k l)
drop_take zero n l = let e : n ≡ n - 0 = omega arith in ap (λ (j : ℕ). take j l) e
drop_take (suc k) zero l = let e : 0 ≡ 0 - suc k = omega arith in ap (λ (j : ℕ). take j (drop (suc k) l)) e
drop_take (suc k) (suc n) [] = sym (take-nil (suc n - suc k))
drop_take (suc k) (suc n) (a ∷ l) = let e : n - k ≡ suc n - suc k = omega arith in drop_take k n l ∙ ap (λ (j : ℕ). take j (drop k l)) e

-- len bytes of a part from its place k on
part_there : (m : List ℕ) (start size k len : ℕ) → k + len ≤ size
    → take len (drop (start + k) m) ≡ take len (drop k (take size (drop start m)))
part_there m start size k len h =
    ap (take len) (sym (drop-drop k start m))
    ∙ sym (take-take len (size - k) (drop k (drop start m)) (omega arith))
    ∙ ap (take len) (sym (drop_take k size (drop start m)))

module _ (base start size : ℕ) (m : List ℕ) (inside : start + size ≤ length m) where
  abbrev part : List ℕ
  part = take size (drop start m)

  part_long : length part ≡ size
  part_long = length-take-le size (drop start m) (rw length-drop (omega arith))

  bytes_one : (addr len : ℕ) → 0 < len → base ≤ addr → addr + len ≤ base + size
      → bytes_of (range base start size ∷ []) m addr len ≡ take len (drop (addr - base) part)
  unfolding bytes_of
  bytes_one addr len h l r =
      let k : min len (size - (addr - base)) ≡ len = omega arith in
      append-nil _
      ∙ piece_here (range base start size) m addr len (holds_inside base size addr l (omega arith))
      ∙ ap (λ (n : ℕ). take n (drop (start + (addr - base)) m)) k
      ∙ part_there m start size (addr - base) len (omega arith)

  -- what a read gives of the part as a list of its own, by whether it succeeds
  one_gives : (addr len : ℕ) {b : Bool} → readable_one base size addr len ≡ b
      → read_one base part addr len ≡ cond b (take len (drop (addr - base) part)) []
  unfolding read_one
  one_gives addr len e = λ i. cond ((ap (λ (n : ℕ). readable_one base n addr len) part_long ∙ e) i) (take len (drop (addr - base) part)) []

  pub one_read : (addr len : ℕ) → read_of (range base start size ∷ []) m addr len ≡ read_one base part addr len
  unfolding read_of readable_one
  one_read addr zero = read_none (range base start size ∷ []) m addr ∙ sym (one_gives addr zero refl)
  one_read addr (suc n) =
      let same = one_readable base start size addr (suc n) in
      ⊎_elim
      (λ (t : readable_one base size addr (suc n) ≡ true).
      let w = one_where base size addr (suc n) (omega arith) t in
      (λ i. cond ((same ∙ t) i) (bytes_of (range base start size ∷ []) m addr (suc n)) [])
      ∙ bytes_one addr (suc n) (omega arith) w.0 w.1
      ∙ sym (one_gives addr (suc n) t))
      (λ (t : readable_one base size addr (suc n) ≡ false).
      read_refused (range base start size ∷ []) m addr (suc n) (same ∙ t) ∙ sym (one_gives addr (suc n) t))
      (true_or_false (readable_one base size addr (suc n)))
