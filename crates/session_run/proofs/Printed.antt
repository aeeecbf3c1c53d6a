-- A line that stands in the room for it, and in a list of lines. Assumes nothing.
use mathlib.Core.Path.{◌≡◌, ap, sym, ◌∙◌}
use mathlib.Core.List.{List, [], ◌∷◌}
use Prim.Native.Nat.{ℕ, suc, ◌+◌, ◌<◌}
use native.Mathlib.Numerals.{add-one}
use native.Mathlib.Omega.{arith}
use lib.ListN.{length, take, drop, get_or, length-drop}
use lib.Seq.{drop-cons, take_at}
use Rattle.rows.specs.Rows.{put}
use Rattle.session.specs.Text.{Text, text, append}
use Rattle.session_run.specs.Lines.{LineAt}

-- the bytes of a line that was written at the front
pub take_line : (out line : List ℕ) {x : List ℕ} {y : ℕ} → text x y ≡ append (text out 0) line → take y x ≡ line
unfolding append put
take_line out line e =
    ap (λ (t : Text). take t.end t.bytes) e ∙ take_at line (drop (0 + length line) out) (0 + length line) (omega arith)

-- the first of the lines from k on
module _ (lines : List (List ℕ)) (k : ℕ) {line : List ℕ} {rest : List (List ℕ)} (e : drop k lines ≡ line ∷ rest) where
  inside : k < length lines
  inside = omega (arith, length-drop k lines, ap length e)

  split : get_or lines k [] ∷ drop (suc k) lines ≡ line ∷ rest
  split = sym (drop-cons lines k [] inside) ∙ e

  pub at_front : LineAt lines k line
  at_front = record { there = inside; same = ap (λ (l : List (List ℕ)). get_or l 0 []) split }

  pub behind : drop (k + 1) lines ≡ rest
  behind = ap (λ (n : ℕ). drop n lines) (add-one k) ∙ ap (drop 1) split

-- a line as it was written is the one that is due
pub due : {lines : List (List ℕ)} {k : ℕ} {line : List ℕ} (out : List ℕ) {x : List ℕ} {y : ℕ} → LineAt lines k line
    → text x y ≡ append (text out 0) line → LineAt lines k (take y x)
due out a e = record { there = a.there; same = a.same ∙ sym (take_line out _ e) }
