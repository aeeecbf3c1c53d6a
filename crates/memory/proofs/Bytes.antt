-- The bytes of a read: as many as asked for or none, and by the bytes of the addresses it asks for alone. Assumes nothing.
use Prim.Native.Nat.{ℕ, ◌+◌, ◌≤◌, ◌<◌}
use native.Mathlib.Omega.{arith}
use mathlib.Core.Bool.{true, false, cond}
use mathlib.Core.Logic.{⊎_elim}
use mathlib.Core.List.Memᴰ
use mathlib.Core.List.{List, [], ◌∷◌}
use mathlib.Core.Path.{◌≡◌, refl, ap, sym, subst, ◌∙◌}
use borrow.Author.Tests.{eqb-true}
use lib.ListN.{length, get_or}
use lib.Seq.{ext_get_or}
use Rattle.ranges.specs.Ranges.{Range, has, left_of, readable_of}
use Rattle.ranges.specs.Ascending.{Ascending}
use Rattle.ranges.proofs.Tests.{true_or_false}
use Rattle.ranges.proofs.Holds.{held_where}
use Rattle.ranges.proofs.Laws.{readable_none}
use Rattle.memory.specs.Memory.{bytes_of, read_of, byte_of}
use Rattle.memory.specs.Agree.{AgreeFrom}
use Rattle.memory.proofs.Pieces.{bytes_none, bytes_count, read_of_lem}
use Rattle.memory.proofs.ByAddress.{byte_here, byte_there, read_byte}

-- ---- how many

-- a read of no byte gives none
pub read_none : (rs : List Range) (m : List ℕ) (addr : ℕ) → read_of rs m addr 0 ≡ []
unfolding read_of
read_none rs m addr = (λ i. cond (readable_none rs addr i) (bytes_of rs m addr 0) []) ∙ bytes_none rs m addr

-- a read that fails gives none
pub read_refused : (rs : List Range) (m : List ℕ) (addr len : ℕ) → readable_of rs addr len ≡ false → read_of rs m addr len ≡ []
unfolding read_of
read_refused rs m addr len h = λ i. cond (h i) (bytes_of rs m addr len) []

-- a read that succeeds gives exactly the bytes asked for
pub length_read : (m : List ℕ) (rs : List Range) (addr len : ℕ) {e : ℕ} → Ascending (length m) e rs → readable_of rs addr len ≡ true
    → length (read_of rs m addr len) ≡ len
unfolding readable_of
length_read m rs addr len d h =
    let z = eqb-true (left_of rs addr len) 0 h in
    ap length (read_of_lem m rs addr len z) ∙ bytes_count m d addr len z

-- ---- by which bytes

-- each is the one at its address
read_at : (m : List ℕ) (rs : List Range) (addr len : ℕ) {e : ℕ} → Ascending (length m) e rs → readable_of rs addr len ≡ true
    → (j : ℕ) → j < len → get_or (read_of rs m addr len) j 0 ≡ byte_of rs m (addr + j)
unfolding readable_of
read_at m rs addr len d h j l =
    let z = eqb-true (left_of rs addr len) 0 h in
    ap (λ (bs : List ℕ). get_or bs j 0) (read_of_lem m rs addr len z) ∙ read_byte m d addr len j z l

module _ (m m' : List ℕ) where
  byte_same : (rs : List Range) (lo hi : ℕ) → AgreeFrom rs m m' lo hi → (x : ℕ) → lo ≤ x → x < hi → byte_of rs m x ≡ byte_of rs m' x
  unfolding byte_of
  byte_same [] lo hi agree x l h = refl
  byte_same (r ∷ rs) lo hi agree x l h =
      ⊎_elim
      (λ (t : has r x ≡ true).
      let w = held_where r.base r.size x t in
      byte_here r rs m x t ∙ agree r (Memᴰ.head refl) x (omega arith) (omega arith) l h ∙ sym (byte_here r rs m' x t))
      (λ (t : has r x ≡ false).
      byte_there r rs m x t ∙ byte_same rs lo hi (λ s i. agree s (Memᴰ.tail i)) x l h ∙ sym (byte_there r rs m' x t))
      (true_or_false (has r x))

  module _ (long : length m ≡ length m') where
    -- a read depends on memory through the bytes of the addresses that it asks for alone
    pub read_same : (rs : List Range) (addr len : ℕ) {e : ℕ} → Ascending (length m) e rs → AgreeFrom rs m m' addr (addr + len)
        → read_of rs m addr len ≡ read_of rs m' addr len
    read_same rs addr len {e} d agree =
        ⊎_elim
        (λ (t : readable_of rs addr len ≡ true).
        let d' = subst (λ (n : ℕ). Ascending n e rs) long d in
        let wide = length_read m rs addr len d t in
        ext_get_or 0 (read_of rs m addr len) (read_of rs m' addr len) (wide ∙ sym (length_read m' rs addr len d' t))
        (λ j l.
        let k : j < len = rw wide at l in
        read_at m rs addr len d t j k
        ∙ byte_same rs addr (addr + len) agree (addr + j) (omega arith) (omega arith)
        ∙ sym (read_at m' rs addr len d' t j k)))
        (λ (t : readable_of rs addr len ≡ false). read_refused rs m addr len t ∙ sym (read_refused rs m' addr len t))
        (true_or_false (readable_of rs addr len))
