-- A run over the calls: before each, the lines that are still to be printed are those of the calls that are left. Assumes nothing.
use mathlib.Core.Path.{◌≡◌, refl, ap, sym, subst, ◌∙◌}
use mathlib.Core.Bool.{Bool, true, false, cond}
use mathlib.Core.List.{List, [], ◌∷◌}
use Rattle.std.specs.Prelude.{Option, Some, None}
use Prim.Native.Nat.{ℕ, suc, ◌+◌, ◌-◌, ◌≤◌, ◌<◌}
use native.Mathlib.Omega.{arith}
use lib.ListN.{length, drop, length-drop}
use lib.Seq.{drop-drop}
use Rattle.fields.specs.Fields.{rest_of}
use Rattle.session.specs.Input.{memory_of, call_count, calls_at, calls_of, call_of, size_of}
use Rattle.session.specs.Calls.{size_inside}
use Rattle.session_calls.specs.Steps.{Held}
use Rattle.session_run.specs.Lines.{first_step, onward, call_lines, lines_of, LineAt, turn_of, Told, told, told_of}
use Rattle.session_run.proofs.Printed.{at_front, behind}

-- of the input d's run, k lines are printed, and `left` calls are to come from `at` on with what is held, h
pub record Running (d : List ℕ) (k at left : ℕ) (h : Held) : Type 0 where
  pub inside : at ≤ length (calls_of d)
  pub count : k + left < 4294967296
  pub near : k ≤ length (lines_of d)
  pub same : drop k (lines_of d) ≡ call_lines left (drop at (calls_of d)) (memory_of d) h

pub run_begin : (d : List ℕ) {k n : ℕ} {h : Held} → k ≡ 0 → n ≡ call_count d → n < 4294967296
    → lines_of d ≡ call_lines (call_count d) (calls_of d) (memory_of d) h → Running d k 0 n h
run_begin d {h = h} ek en small e = record {
  inside = omega arith;
  count = omega arith;
  near = omega arith;
  same = ap (λ (m : ℕ). drop m (lines_of d)) ek ∙ e ∙ ap (λ (m : ℕ). call_lines m (calls_of d) (memory_of d) h) (sym en);
}

-- the calls that are left, as they were counted
pub run_on : {d : List ℕ} {k at left n : ℕ} {h : Held} → Running d k at left h → n ≡ left → Running d k at n h
run_on {d} {k} {at} {h = h} r e = subst (λ (m : ℕ). Running d k at m h) (sym e) r

pub run_end : {d : List ℕ} {k at left : ℕ} {h : Held} → Running d k at left h → left ≤ 0 → k ≡ length (lines_of d)
unfolding call_lines
run_end {d} {k} {at} {left} {h} r none =
    let z : left ≡ 0 = omega arith in
    let e : drop k (lines_of d) ≡ [] = r.same ∙ ap (λ (n : ℕ). call_lines n (drop at (calls_of d)) (memory_of d) h) z in
    omega (arith, length-drop k (lines_of d), ap length e, r.near)

-- a size, or z where there is none
abbrev or_size : ℕ → Option ℕ → ℕ
or_size z (Some n) = n
or_size z None = z

size_told : (going : Bool) (z : ℕ) → or_size z (cond going (Some z) None) ≡ z
size_told true z = refl
size_told false z = refl

-- the lines from where the next call begins, if there is one
abbrev from_next : Option ℕ → (ℕ → List (List ℕ)) → List (List ℕ)
from_next (Some size) lines = lines size
from_next None lines = []

onward_told : (going : Bool) (size : ℕ) (lines : ℕ → List (List ℕ))
    → onward going (lines size) ≡ from_next (cond going (Some size) None) lines
onward_told true size lines = refl
onward_told false size lines = refl

-- what a turn tells the run, as the match on it says
pub found : {x y : Option ℕ} {u : Held} {t : Told} → x ≡ y → told x u ≡ t → told y u ≡ t
found {u = u} e is = ap (λ (z : Option ℕ). told z u) (sym e) ∙ is

-- the lines behind the next call, by what it tells the run
abbrev following : List ℕ → ℕ → ℕ → Told → List (List ℕ)
following d at left t = from_next t.next (λ size. call_lines (left - 1) (drop size (drop at (calls_of d))) (memory_of d) t.left)

module _ {d : List ℕ} {k at left : ℕ} {h : Held} (r : Running d k at left h) (some : 0 < left) where
  front : drop k (lines_of d) ≡ (first_step (drop at (calls_of d)) (memory_of d) h).line
      ∷ following d at left (told_of (turn_of (drop at (calls_of d)) (memory_of d) h))
  unfolding call_lines
  front =
      let e : left ≡ suc (left - 1) = omega arith in
      let t = turn_of (drop at (calls_of d)) (memory_of d) h in
      r.same
      ∙ ap (λ (n : ℕ). call_lines n (drop at (calls_of d)) (memory_of d) h) e
      ∙ ap (λ (lines : List (List ℕ)). (first_step (drop at (calls_of d)) (memory_of d) h).line ∷ lines)
      (onward_told t.going t.size (λ size. call_lines (left - 1) (drop size (drop at (calls_of d))) (memory_of d) t.left))

  pub turn_line : LineAt (lines_of d) k (first_step (drop at (calls_of d)) (memory_of d) h).line
  turn_line = at_front (lines_of d) k front

  -- behind a turn, which printed a line
  module _ {m : ℕ} {u : Held} (em : m ≡ k + 1) where
    rest : {next : Option ℕ} → told next u ≡ told_of (turn_of (drop at (calls_of d)) (memory_of d) h)
        → drop m (lines_of d) ≡ following d at left (told next u)
    rest e =
        ap (λ (n : ℕ). drop n (lines_of d)) em ∙ behind (lines_of d) k front ∙ sym (ap (following d at left) e)

    -- the run ends where the call was refused
    pub turn_last : told None u ≡ told_of (turn_of (drop at (calls_of d)) (memory_of d) h) → m ≡ length (lines_of d)
    turn_last e = omega (arith, em, turn_line.there, length-drop m (lines_of d), ap length (rest e))

    module _ {size : ℕ} (e : told (Some size) u ≡ told_of (turn_of (drop at (calls_of d)) (memory_of d) h)) where
      size_is : size ≡ size_of (call_of (drop at (calls_of d)))
      unfolding turn_of
      size_is =
          let t = turn_of (drop at (calls_of d)) (memory_of d) h in
          ap (λ (x : Told). or_size t.size x.next) e ∙ size_told t.going t.size

      -- the next place is inside the input
      turn_inside : at + size ≤ length (calls_of d)
      turn_inside = omega (arith, size_is, size_inside (drop at (calls_of d)), length-drop at (calls_of d), r.inside)

      pub turn_near : at + size ≤ length d
      unfolding rest_of
      turn_near = omega (arith, turn_inside, length-drop (calls_at d) d)

      -- the calls that are left
      pub turn_next : {n : ℕ} → n ≡ left - 1 → Running d m (at + size) n u
      turn_next en =
          run_on
          (
          record {
            inside = turn_inside;
            count = omega (arith, em, r.count);
            near = omega (arith, em, turn_line.there);
            same = rest e ∙ ap (λ (s : List ℕ). call_lines (left - 1) s (memory_of d) u) (drop-drop size at (calls_of d));
          })
          en
