-- The lines of a whole run (docs/QUESTIONS.md, "The session program"): question 10, the length call, the open, and then the calls up to the first
-- refusal. Definitions only.
use Rattle.std.specs.Prelude.{◌≡◌, Bool, true, false, cond, List, [], ◌∷◌, ℕ, zero, suc, ◌*◌, ◌<◌, eqb, Float, length, drop, get_or, replicate}
use Rattle.std.specs.Prelude.{Option, Some, None}
use Rattle.floats.specs.Defs.{zero32}
use Rattle.params.specs.declared.params.Params.{Params}
use Rattle.state.specs.State.{state_of}
use Rattle.calls.specs.Calls.{LengthsOutcome, lengths_call, open_call}
use Rattle.session.specs.Input.{parameters_of, memory_of, call_count, calls_of, call_of, size_of}
use Rattle.session.specs.Question.{accepted_of}
use Rattle.session.specs.Lines.{refused_line}
use Rattle.session_calls.specs.Steps.{Held, held, Step, call_step}

-- ---- the calls. A line is the list of its bytes, its end among them.

-- the call at the front of d
unfoldable pub first_step : List ℕ → List ℕ → Held → Step
unfolding call_of call_step
first_step d memory h = call_step (call_of d) d memory h

-- what a call gives to the run: whether it goes on, which a refusal ends, the call's size, and what is left
pub record Turned : Type 0 where
  pub going : Bool
  pub size : ℕ
  pub left : Held

abbrev pub turned : Bool → ℕ → Held → Turned
turned going size h = record { going = going; size = size; left = h }

unfoldable pub turn_of : List ℕ → List ℕ → Held → Turned
unfolding first_step call_of
turn_of d memory h =
    let s = first_step d memory h in
    turned (eqb s.number 0) (size_of (call_of d)) s.left

abbrev pub onward : Bool → List (List ℕ) → List (List ℕ)
onward true lines = lines
onward false lines = []

-- n calls from the front of d: each is handed what the call before it left, and the first refusal's line is the last
unfoldable pub call_lines : ℕ → List ℕ → List ℕ → Held → List (List ℕ)
unfolding first_step turn_of
call_lines zero d memory h = []
call_lines (suc n) d memory h =
    let t = turn_of d memory h in
    (first_step d memory h).line ∷ onward t.going (call_lines n (drop t.size d) memory t.left)

-- how far on the call after one begins: by that one's size, if the run goes on
abbrev pub next_of : Turned → Option ℕ
next_of t = cond t.going (Some t.size) None

-- what a call tells the run: how far on the next one begins, and what is left
pub record Told : Type 0 where
  pub next : Option ℕ
  pub left : Held

abbrev pub told : Option ℕ → Held → Told
told next h = record { next = next; left = h }

abbrev pub told_of : Turned → Told
told_of t = told (next_of t) t.left

-- ---- what comes before them

-- a refusal's line is the only one
abbrev pub or_refused : ℕ → List (List ℕ) → List (List ℕ)
or_refused zero lines = lines
or_refused (suc n) lines = refused_line (suc n) ∷ []

-- from the open on, with what is lent for the state, the frames and a reply
unfoldable pub open_lines : List ℕ → Held → List (List ℕ)
unfolding open_call call_lines
open_lines d h =
    let o = open_call (parameters_of d) h.state in
    or_refused o.number (call_lines (call_count d) (calls_of d) (memory_of d) (held o.state h.frames h.reply))

unfoldable pub zeros : ℕ → List ℕ
zeros n = replicate n 0

unfoldable pub silence : ℕ → List Float
silence n = replicate n zero32

-- what the program lends, all zeros: the state's slices, as long as the length call says, frames for one render, 16,384 bytes for a reply
unfoldable pub room : Params → LengthsOutcome → Held
unfolding zeros silence
room p at =
    held (state_of (zeros at.words) (zeros at.longs) (silence at.floats) (zeros at.contexts) (silence at.history))
    (silence (2 * p.sample_count)) (zeros 16384)

-- the lines of the run that the input d asks for
unfoldable pub lines_of : List ℕ → List (List ℕ)
unfolding accepted_of lengths_call open_lines room
lines_of d =
    let at = lengths_call (parameters_of d) in
    or_refused (cond (accepted_of d) 0 10) (or_refused at.number (open_lines d (room (parameters_of d) at)))

-- line k of the lines
pub record LineAt (lines : List (List ℕ)) (k : ℕ) (line : List ℕ) : Type 0 where
  pub there : k < length lines
  pub same : get_or lines k [] ≡ line
