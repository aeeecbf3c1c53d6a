-- The lines of a run by what question 10, the length call and the open answered. Assumes nothing.
use mathlib.Core.Path.{◌≡◌, refl, ap, sym, ◌∙◌}
use mathlib.Core.Bool.{Bool, true, false, cond, not}
use mathlib.Core.List.{List, [], ◌∷◌}
use Prim.Native.Nat.{ℕ, zero, suc, ◌<◌}
use native.Mathlib.Omega.{arith}
use borrow.Author.Tests.{not-true, not-false}
use lib.Ieee.{Float}
use Rattle.params.specs.declared.params.Params.{Params}
use Rattle.state.specs.State.{State}
use Rattle.calls.specs.Calls.{LengthsOutcome, lengths_call, OpenOutcome, open_call}
use Rattle.renderer.specs.declared.answers.Lengths.{Lengths}
use Rattle.std.specs.Prelude.{Result, Ok, Err}
use Rattle.renderer.specs.declared.answers.LengthsError.{LengthsError}
use Rattle.renderer.specs.declared.answers.LengthsError.TheVariants as of_lengths
use Rattle.renderer.specs.declared.answers.OpenError.{OpenError}
use Rattle.renderer.specs.declared.answers.OpenError.TheVariants as of_open
use Rattle.renderer.specs.Answers.{lengths_refusal, lengths_seen, open_refusal, open_number, open_seen}
use Rattle.session.specs.Input.{parameters_of, memory_of, call_count, calls_of}
use Rattle.session.specs.Question.{accepted_of}
use Rattle.session.specs.Lines.{refused_line}
use Rattle.session_calls.specs.Steps.{held}
use Rattle.session_run.specs.Lines.{call_lines, or_refused, open_lines, room, lines_of}

refused_alone : (n : ℕ) → 0 < n → (lines : List (List ℕ)) → or_refused n lines ≡ refused_line n ∷ []
refused_alone zero some lines = absurd (omega arith)
refused_alone (suc n) some lines = refl

lengths_some : (e : LengthsError) → 0 < lengths_refusal e
lengths_some of_lengths.Samples = omega arith
lengths_some of_lengths.Counts = omega arith

open_some : (e : OpenError) → 0 < open_refusal e
open_some of_open.Samples = omega arith
open_some of_open.Counts = omega arith
open_some of_open.Lengths = omega arith

-- ---- question 10, by its answer r

module _ (d : List ℕ) {r : Bool} (er : r ≡ accepted_of d) where
  pub not_accepted : not r ≡ true → lines_of d ≡ refused_line 10 ∷ []
  unfolding lines_of
  not_accepted h = rw (sym er ∙ not-true r h)

  module _ (h : not r ≡ false) {p : Params} (ep : p ≡ parameters_of d) (a : Result Lengths LengthsError) (seen : lengths_seen a ≡ lengths_call p) where
    asked : lines_of d ≡ or_refused (lengths_seen a).number (open_lines d (room p (lengths_seen a)))
    unfolding lines_of
    asked =
        let yes : accepted_of d ≡ true = sym er ∙ not-false r h in
        let whole : Bool → Params → LengthsOutcome → List (List ℕ) =
        λ t q o. or_refused (cond t 0 10) (or_refused o.number (open_lines d (room q o))) in
        ap (λ (t : Bool). whole t (parameters_of d) (lengths_call (parameters_of d))) yes
        ∙ sym (ap (λ (q : Params). whole true q (lengths_call q)) ep)
        ∙ sym (ap (whole true p) seen)

    -- ---- the length call, by its answer

    pub lengths_given_lem : {at : Lengths} → a ≡ Ok at → lines_of d ≡ open_lines d (room p (lengths_seen (Ok at)))
    lengths_given_lem e = asked ∙ ap (λ (b : Result Lengths LengthsError). or_refused (lengths_seen b).number (open_lines d (room p (lengths_seen b)))) e

    pub lengths_refused_lem : {e : LengthsError} {k : ℕ} → a ≡ Err e → k ≡ lengths_refusal e → lines_of d ≡ refused_line k ∷ []
    lengths_refused_lem {e} {k} ea ek =
        let lines = open_lines d (room p (lengths_seen a)) in
        let number : (lengths_seen a).number ≡ k = ap (λ (b : Result Lengths LengthsError). (lengths_seen b).number) ea ∙ sym ek in
        asked
        ∙ ap (λ (m : ℕ). or_refused m lines) number
        ∙ refused_alone k (omega (arith, ek, lengths_some e)) lines

-- ---- the open, by its answer a, and its number

module _ (d : List ℕ) {p : Params} (st : State) {u : State} (frames : List Float) (reply : List ℕ) (ep : p ≡ parameters_of d)
    (lent : lines_of d ≡ open_lines d (held st frames reply)) (a : Result (Unit {0}) OpenError) (seen : open_seen a u ≡ open_call p st) where
  opening : lines_of d ≡ or_refused (open_number a) (call_lines (call_count d) (calls_of d) (memory_of d) (held u frames reply))
  unfolding open_lines
  opening =
      let whole : OpenOutcome → List (List ℕ) =
      λ o. or_refused o.number (call_lines (call_count d) (calls_of d) (memory_of d) (held o.state frames reply)) in
      lent ∙ sym (ap (λ (q : Params). whole (open_call q st)) ep) ∙ sym (ap whole seen)

  pub open_ran : {v : Unit {0}} → a ≡ Ok v → lines_of d ≡ call_lines (call_count d) (calls_of d) (memory_of d) (held u frames reply)
  open_ran ea =
      opening
      ∙ ap (λ (b : Result (Unit {0}) OpenError). or_refused (open_number b) (call_lines (call_count d) (calls_of d) (memory_of d) (held u frames reply))) ea

  pub open_refused : {e : OpenError} {k : ℕ} → a ≡ Err e → k ≡ open_refusal e → lines_of d ≡ refused_line k ∷ []
  open_refused {e} {k} ea ek =
      let lines = call_lines (call_count d) (calls_of d) (memory_of d) (held u frames reply) in
      let number : open_number a ≡ k = ap open_number ea ∙ sym ek in
      opening ∙ ap (λ (n : ℕ). or_refused n lines) number ∙ refused_alone k (omega (arith, ek, open_some e)) lines
