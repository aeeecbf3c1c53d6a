-- A read that is gathered range by range: what is gathered, with what the ranges that are left give of the rest, is the whole.
-- Assumes nothing.
use Prim.Native.Nat.{ℕ, ◌+◌, ◌-◌, ◌≤◌}
use native.Mathlib.Omega.{arith}
use mathlib.Core.Bool.{true}
use mathlib.Core.List.{List, [], ◌∷◌, ◌++◌, append-nil, append_assoc}
use mathlib.Core.Path.{◌≡◌, refl, ap, sym, ◌∙◌}
use borrow.Author.Tests.{eqb-true}
use lib.ListN.{length, take, drop, length-append, length-drop, drop_of_length-le}
use lib.Seq.{length-take-le, take_at, take_all}
use Rattle.ranges.specs.Ranges.{Range, next_at, next_left, left_of, readable_of}
use Rattle.ranges.specs.Ascending.{Ascending, more}
use Rattle.memory.specs.Memory.{piece_of, bytes_of, read_of}
use Rattle.memory.specs.Given.{Given}
use Rattle.memory.proofs.Pieces.{piece_long, bytes_none, read_of_lem}

-- `done` of n bytes stand in out, the read has reached `at`, and the ranges rs are left
pub record Gathering (m : List ℕ) (n : ℕ) (whole : List ℕ) (at done : ℕ) (out : List ℕ) (rs : List Range) : Type 0 where
  pub below : done ≤ n
  pub long : length out ≡ n
  pub from : ℕ
  pub ascending : Ascending (length m) from rs
  pub left : left_of rs at (n - done) ≡ 0
  pub made : take done out ++ bytes_of rs m at (n - done) ≡ whole

pub gather_begin : {m : List ℕ} {rs : List Range} (addr : ℕ) (out : List ℕ) {e : ℕ} → Ascending (length m) e rs
    → readable_of rs addr (length out) ≡ true → Gathering m (length out) (read_of rs m addr (length out)) addr 0 out rs
unfolding readable_of
gather_begin {m} {rs} addr out {e} s h =
    let all : length out - 0 ≡ length out = omega arith in
    let z = eqb-true (left_of rs addr (length out)) 0 h in
    record {
      below = omega arith;
      long = refl;
      from = e;
      ascending = s;
      left = ap (left_of rs addr) all ∙ z;
      made = ap (bytes_of rs m addr) all ∙ sym (read_of_lem m rs addr (length out) z);
    }

part_inside : {n e : ℕ} {r : Range} {rs : List Range} → Ascending n e (r ∷ rs) → r.start + r.size ≤ n
part_inside (more a p q s) = p

tail : {n e : ℕ} {r : Range} {rs : List Range} → Ascending n e (r ∷ rs) → Ascending n (r.base + r.size) rs
tail (more a p q s) = s

module _ {m : List ℕ} {n : ℕ} {whole : List ℕ} {at done : ℕ} {out : List ℕ} where
  module _ {r : Range} {rs : List Range} (g : Gathering m n whole at done out (r ∷ rs)) where
    -- the part of the range that comes is inside
    pub gather_part : r.start + r.size ≤ length m
    gather_part = part_inside g.ascending

    more_by : {k at' : ℕ} {part out' : List ℕ} → Given r m at (drop done out) k part → at' ≡ next_at r.base r.size at
        → out' ≡ take done out ++ part → Ascending (length m) (r.base + r.size) rs → Gathering m n whole at' (done + k) out' rs
    unfolding left_of bytes_of
    more_by {k} {at'} {part} {out'} given ea eo s =
        let front = take done out in
        let rest = drop done out in
        let left : length rest ≡ n - done = length-drop done out ∙ omega (arith, g.long) in
        let piece = piece_of r m at (n - done) in
        let count : k ≡ length piece = given.count ∙ ap (λ (l : ℕ). length (piece_of r m at l)) left in
        let all = piece_long r m at (n - done) gather_part in
        let after : next_left r.base r.size at (n - done) ≡ n - (done + k) = omega (arith, g.below) in
        let ahead : length front ≡ done = length-take-le done out (omega (arith, g.below, g.long)) in
        let is : out' ≡ (front ++ piece) ++ drop k rest =
        eo
        ∙ ap (λ (p : List ℕ). front ++ p) (given.made ∙ ap (λ (l : ℕ). piece_of r m at l ++ drop k rest) left)
        ∙ sym (append_assoc front piece (drop k rest)) in
        let wide : length (front ++ piece) ≡ done + k = length-append front piece ∙ omega arith in
        let taken = ap (take (done + k)) is ∙ take_at (front ++ piece) (drop k rest) (done + k) wide in
        record {
          below = omega (arith, g.below);
          long = ap length is ∙ length-append (front ++ piece) (drop k rest) ∙ omega (arith, length-drop k rest, g.below);
          from = r.base + r.size;
          ascending = s;
          left = (λ j. left_of rs (ea j) (sym after j)) ∙ g.left;
          made = (λ j. taken j ++ bytes_of rs m (ea j) (sym after j)) ∙ append_assoc front piece _ ∙ g.made;
        }

    -- it gives its piece: the rest of the list is lent as `out[done..]`, and comes back
    pub gather_more : {k at' : ℕ} {part : List ℕ} → Given r m at (take (length out - done) (drop done out)) k part
        → at' ≡ next_at r.base r.size at
        → Gathering m n whole at' (done + k) (take done out ++ (part ++ drop (length out - done) (drop done out))) rs
    gather_more {k} {at'} {part} given ea =
        let rest = drop done out in
        let long = length-drop done out in
        let lent : take (length out - done) rest ≡ rest = take_all (length out - done) rest (omega arith) in
        let none : drop (length out - done) rest ≡ [] = drop_of_length-le rest {i = length out - done} (omega arith) in
        let back : part ++ drop (length out - done) rest ≡ part = ap (λ (l : List ℕ). part ++ l) none ∙ append-nil part in
        more_by (rw lent at given) ea (ap (λ (l : List ℕ). take done out ++ l) back) (tail g.ascending)

  -- nothing is left to gather
  pub gathered : {rs : List Range} → Gathering m n whole at done out rs → n - done ≡ 0 → out ≡ whole
  gathered {rs} g z =
      sym (take_all done out (omega (arith, g.below, g.long)))
      ∙ sym (append-nil (take done out))
      ∙ (λ j. take done out ++ sym (bytes_none rs m at) j)
      ∙ (λ j. take done out ++ bytes_of rs m at (sym z j))
      ∙ g.made

  -- no range is left, and so nothing to gather
  pub gather_end : Gathering m n whole at done out [] → out ≡ whole
  unfolding left_of
  gather_end g = gathered g g.left
