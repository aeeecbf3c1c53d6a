-- A turn of a run: the call at a place in the input, as it was read and run, is the definition's. Assumes nothing.
use mathlib.Core.Path.{◌≡◌, ap, sym, ◌∙◌}
use mathlib.Core.Bool.{Bool, cond}
use mathlib.Core.List.{List}
use Rattle.std.specs.Prelude.{Option, Some, None, MatchOption}
use Prim.Native.Nat.{ℕ}
use lib.Dec.{eqb}
use lib.ListN.{take, drop}
use Rattle.fields.specs.Fields.{rest_of}
use Rattle.session.specs.declared.input.Call.{Call}
use Rattle.session.specs.Input.{memory_of, calls_of, call_of, size_of}
use Rattle.session.specs.Text.{text}
use Rattle.session_calls.specs.Steps.{Held, call_step, Written, written, written_on}
use Rattle.session_run.specs.Lines.{first_step, LineAt, turned, turn_of, told, told_of}
use Rattle.session_run.proofs.Printed.{due}

-- the size of the call that was read, if one was
pub size_known : (o : Option Call) {n : ℕ} → MatchOption o (n ≡ 0) (λ x. n ≡ size_of (Some x)) → n ≡ size_of o
size_known (Some x) h = h
size_known None h = h

-- the calls cs of the input, those from a place on, d, sample memory m, and the call at the front of d, which was run
module _ (input : List ℕ) (at : ℕ) {cs d m : List ℕ} {call : Option Call} (ecs : cs ≡ calls_of input) (ed : d ≡ rest_of cs at)
    (em : m ≡ memory_of input) (ec : call ≡ call_of d) (h : Held) (out : List ℕ) {n : ℕ} {u : Held} {x : List ℕ} {y : ℕ}
    (ran : written n u (text x y) ≡ written_on out (call_step call d m h)) where
  rest_is : d ≡ drop at (calls_of input)
  unfolding rest_of
  rest_is = ed ∙ ap (drop at) ecs

  step_is : call_step call d m h ≡ first_step (drop at (calls_of input)) (memory_of input) h
  unfolding first_step
  step_is = (λ i. call_step (ec i) d m h) ∙ (λ i. call_step (call_of (rest_is i)) (rest_is i) (em i) h)

  done : written n u (text x y) ≡ written_on out (first_step (drop at (calls_of input)) (memory_of input) h)
  done = ran ∙ ap (written_on out) step_is

  -- what stands in the room for a line is the line that is due
  pub turn_due : {lines : List (List ℕ)} {k : ℕ} → LineAt lines k (first_step (drop at (calls_of input)) (memory_of input) h).line
      → LineAt lines k (take y x)
  turn_due due-line = due out due-line (ap (λ (w : Written). w.out) done)

  turn_done : {size : ℕ} → size ≡ size_of call → turned (eqb n 0) size u ≡ turn_of (drop at (calls_of input)) (memory_of input) h
  unfolding turn_of
  turn_done es =
      let size_is = es ∙ ap size_of (ec ∙ ap call_of rest_is) in
      λ i. turned (eqb (done i).number 0) (size_is i) (done i).left

  -- what the call tells the run, by whether that goes on
  pub turn_told : {size : ℕ} (going : Bool) → size ≡ size_of call → eqb n 0 ≡ going
      → told (cond going (Some size) None) u ≡ told_of (turn_of (drop at (calls_of input)) (memory_of input) h)
  turn_told {size} going es e =
      ap (λ (x : Bool). told (cond x (Some size) None) u) (sym e) ∙ ap told_of (turn_done es)
