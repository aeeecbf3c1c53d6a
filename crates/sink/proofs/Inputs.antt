-- The rows that a sink's inputs are, and its frames by how many inputs it has. Assumes nothing.
use mathlib.Core.Path.{◌≡◌, refl, ap, ◌∙◌}
use mathlib.Core.Bool.{Bool, true, false, cond}
use mathlib.Core.List.{List, ◌++◌}
use Prim.Native.Nat.{ℕ, ◌+◌, ◌*◌, ◌≤◌, ◌<◌}
use native.Mathlib.Omega.{arith}
use lib.Dec.{leb}
use lib.ListN.{length, take, drop, get_or}
use lib.Seq.{length-take-le, get_or-take, get_or-drop}
use lib.Ieee.{Float, nan}
use borrow.Author.Tests.{ne_eqb, lt-ltb, le-ltb, leb-true}
use Rattle.floats.specs.Defs.{zero32}
use Rattle.rows.specs.Rows.{part, length_part}
use Rattle.std.specs.Prelude.{Option}
use Rattle.sink.specs.Sink.{Silent, row_or, sample_of, frames, factors_of, side, left_of, right_of, input_of, sink_of}
use Rattle.sink.specs.Laws.{frames_ext}

module _ (buffers silent : List Float) (b n : ℕ) where
  row_size : n ≤ length silent → length (row_or buffers silent b n) ≡ n
  unfolding row_or
  row_size h = go (leb (b * n + n) (length buffers)) (leb-true _ _)
    where
      go : (t : Bool) → (t ≡ true → b * n + n ≤ length buffers) → length (cond t (part n (b * n) buffers) (take n silent)) ≡ n
      go true f = length_part n (b * n) buffers (f refl)
      go false f = length-take-le n silent h

  pub row_long : (xs : List Float) → Silent n silent → xs ≡ row_or buffers silent b n → n ≤ length xs
  row_long xs z e = let s = ap length e ∙ row_size z.size in omega arith

  row_sample : Silent n silent → (i : ℕ) → i < n → get_or (row_or buffers silent b n) i nan ≡ sample_of buffers n b i
  unfolding row_or sample_of part
  row_sample z i h = go (leb (b * n + n) (length buffers))
    where
      go : (t : Bool) → get_or (cond t (take n (drop (b * n) buffers)) (take n silent)) i nan ≡ cond t (get_or buffers (b * n + i) nan) zero32
      go true = get_or-take n (drop (b * n) buffers) i nan h ∙ get_or-drop (b * n) buffers i nan
      go false = get_or-take n silent i nan h ∙ z.zeros i h

module _ (buffers silent : List Float) (n offset : ℕ) (inputs : List ℕ) (count : ℕ) (downmix : Option (List Float)) (out t : List Float) (z : Silent n silent) where
  -- xs is input k of the sink
  abbrev Row : ℕ → List Float → Type 0
  Row k xs = xs ≡ row_or buffers silent (offset + get_or inputs k 0) n

  -- t is what the sink makes of `out`
  abbrev Done : Type 0
  Done = t ≡ sink_of buffers n offset inputs count downmix ++ drop (2 * n) out

  abbrev of : List Float → ℕ → Float
  of xs i = get_or xs i nan

  at : (k : ℕ) (xs : List Float) → Row k xs → (i : ℕ) → i < n → of xs i ≡ input_of buffers n offset inputs k i
  unfolding input_of
  at k xs e i h = ap (λ (ys : List Float). of ys i) e ∙ row_sample buffers silent (offset + get_or inputs k 0) n z i h

  -- frames that agree with the definition's
  agree : (l r : ℕ → Float) → ((i : ℕ) → i < n → l i ≡ left_of downmix count (input_of buffers n offset inputs) i)
      → ((i : ℕ) → i < n → r i ≡ right_of downmix count (input_of buffers n offset inputs) i) → t ≡ frames l r n ++ drop (2 * n) out → Done
  unfolding sink_of
  agree l r p q e = e ∙ ap (λ (x : List Float). x ++ drop (2 * n) out) (frames_ext l _ r _ n p q)

  pub none : count ≡ 0 → t ≡ frames (of silent) (of silent) n ++ drop (2 * n) out → Done
  unfolding left_of right_of
  none c e = agree (of silent) (of silent) (λ i h. rw c (z.zeros i h)) (λ i h. rw c (z.zeros i h)) e

  module _ (a : List Float) (ra : Row 0 a) where
    pub single : count ≡ 1 → t ≡ frames (of a) (of a) n ++ drop (2 * n) out → Done
    unfolding left_of right_of
    single c e = agree (of a) (of a) (λ i h. rw c (at 0 a ra i h)) (λ i h. rw c (at 0 a ra i h)) e

    module _ (some : count ≡ 0 → ⊥) (two : count ≡ 1 → ⊥) (b : List Float) (rb : Row 1 b) where
      pub pair : count < 6 → t ≡ frames (of a) (of b) n ++ drop (2 * n) out → Done
      unfolding left_of right_of
      pair l e =
          agree (of a) (of b)
          (λ i h. rw (ne_eqb count 0 some, lt-ltb count 6 l) (at 0 a ra i h))
          (λ i h. rw (ne_eqb count 0 some, ne_eqb count 1 two, lt-ltb count 6 l) (at 1 b rb i h)) e

      pub six : 6 ≤ count → (c d f g : List Float) → Row 2 c → Row 3 d → Row 4 f → Row 5 g → (k : List Float) → k ≡ factors_of downmix
          → t ≡ frames (λ i. side k (of a i) (of c i) (of d i) (of f i)) (λ i. side k (of b i) (of c i) (of d i) (of g i)) n ++ drop (2 * n) out → Done
      unfolding left_of right_of
      six l c d f g rc rd rf rg k w e =
          agree _ _
          (λ i h. rw (ne_eqb count 0 some, le-ltb count 6 l, at 0 a ra i h, at 2 c rc i h, at 3 d rd i h, at 4 f rf i h, w))
          (λ i h. rw (ne_eqb count 0 some, ne_eqb count 1 two, le-ltb count 6 l, at 1 b rb i h, at 2 c rc i h, at 3 d rd i h, at 5 g rg i h, w)) e
