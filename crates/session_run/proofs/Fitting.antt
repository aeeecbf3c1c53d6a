-- The state of a session that question 10 accepts fits the room that the program has, which is lent from its front. Assumes nothing.
use mathlib.Core.Path.{◌≡◌, refl, ap, sym, ◌∙◌}
use mathlib.Core.Bool.{Bool, true, false, cond, not}
use mathlib.Core.List.{List, ◌∷◌}
use Prim.Native.Nat.{ℕ, zero, suc, ◌*◌, ◌≤◌}
use native.Mathlib.Omega.{arith}
use borrow.Author.Tests.{not-false}
use lib.Ieee.{Float, binary32, of_bits}
use lib.ListN.{take, replicate}
use Rattle.floats.specs.Defs.{zero32}
use Rattle.params.specs.declared.params.Params.{Params}
use Rattle.params.specs.Sizes.{Allowed}
use Rattle.state.specs.State.{state_of, places_of}
use Rattle.whole.specs.Counts.{samples_allowed, counts_allowed, allowed_facts}
use Rattle.calls.specs.Calls.{LengthsOutcome, lengths_refused, lengths_given, lengths_call}
use Rattle.renderer.specs.declared.answers.Lengths.{Lengths}
use Rattle.std.specs.Prelude.{Result, Ok}
use Rattle.renderer.specs.declared.answers.LengthsError.{LengthsError}
use Rattle.renderer.specs.Answers.{lengths_seen}
use Rattle.session.specs.Input.{parameters_of}
use Rattle.session.specs.Question.{accepted_of}
use Rattle.session.specs.Asked.{Small, accepted_small}
use Rattle.session_calls.specs.Steps.{held}
use Rattle.session_run.specs.Lines.{zeros, silence, room}
use Rattle.session_run.specs.Room.{Fits}

module _ (p : Params) (small : Small p) (at : Lengths) where
  given : Allowed p → lengths_seen (Ok at) ≡ lengths_given (places_of p) → Fits at
  unfolding places_of
  given a e = record {
    words = omega (arith, ap (λ (x : LengthsOutcome). x.words) e);
    longs = omega (arith, ap (λ (x : LengthsOutcome). x.longs) e);
    floats = omega (arith, ap (λ (x : LengthsOutcome). x.floats) e);
    contexts = omega (arith, ap (λ (x : LengthsOutcome). x.contexts) e);
    history = omega (arith, ap (λ (x : LengthsOutcome). x.history) e);
  }

  by_answers : (s c : Bool) → samples_allowed p ≡ s → counts_allowed p ≡ c
      → lengths_seen (Ok at) ≡ cond s (cond c (lengths_given (places_of p)) (lengths_refused 2)) (lengths_refused 1) → Fits at
  by_answers true true es ec e = given (allowed_facts p es ec) e
  by_answers true false es ec e = absurd (omega (arith, ap (λ (x : LengthsOutcome). x.number) e))
  by_answers false c es ec e = absurd (omega (arith, ap (λ (x : LengthsOutcome). x.number) e))

  pub fits : {a : Result Lengths LengthsError} → a ≡ Ok at → lengths_seen a ≡ lengths_call p → Fits at
  unfolding lengths_call
  fits e seen = by_answers (samples_allowed p) (counts_allowed p) refl refl (ap lengths_seen (sym e) ∙ seen)

-- the parameters p of an input that was accepted, by the answer r
pub accepted_parameters : (d : List ℕ) {r : Bool} {p : Params} → r ≡ accepted_of d → not r ≡ false → p ≡ parameters_of d → Small p
accepted_parameters d {r} er h ep = rw ep (accepted_small d (sym er ∙ not-false r h))

-- ---- what is lent, from the front of slices of zeros

take_replicate : {A : Type 0} (k n : ℕ) (z : A) → k ≤ n → take k (replicate n z) ≡ replicate k z
take_replicate zero n z h = refl
take_replicate (suc k) zero z h = absurd (omega arith)
take_replicate (suc k) (suc n) z h = ap (λ xs. z ∷ xs) (take_replicate k n z (omega arith))

take_zeros : {k : ℕ} (n : ℕ) {s : List ℕ} → s ≡ replicate n 0 → k ≤ n → take k s ≡ zeros k
unfolding zeros
take_zeros {k} n e h = ap (take k) e ∙ take_replicate k n 0 h

take_silence : {k : ℕ} (n : ℕ) {s : List Float} → s ≡ replicate n (of_bits binary32 0) → k ≤ n → take k s ≡ silence k
unfolding silence of_bits
take_silence {k} n e h = ap (take k) e ∙ take_replicate k n zero32 h

all_zeros : (n : ℕ) {s : List ℕ} → s ≡ replicate n 0 → s ≡ zeros n
unfolding zeros
all_zeros n e = e

pub room_lent : (p : Params) (at : Lengths) {w l c y : List ℕ} {f h r : List Float} → Small p → Fits at
    → w ≡ replicate 1390 0 → l ≡ replicate 57 0 → f ≡ replicate 2932 (of_bits binary32 0) → c ≡ replicate 12 0
    → h ≡ replicate 72 (of_bits binary32 0) → r ≡ replicate 128 (of_bits binary32 0) → y ≡ replicate 16384 0
    → held (state_of (take at.words w) (take at.longs l) (take at.floats f) (take at.contexts c) (take at.history h))
    (take (2 * p.sample_count) r) y
    ≡ room p (lengths_seen (Ok at))
unfolding room
room_lent p at small fit ew el ef ec eh er ey =
    let tw = take_zeros 1390 ew fit.words in
    let tl = take_zeros 57 el fit.longs in
    let tf = take_silence 2932 ef fit.floats in
    let tc = take_zeros 12 ec fit.contexts in
    let th = take_silence 72 eh fit.history in
    let tr = take_silence {k = 2 * p.sample_count} 128 er (omega (arith, small.samples)) in
    let ty = all_zeros 16384 ey in
    λ i. held (state_of (tw i) (tl i) (tf i) (tc i) (th i)) (tr i) (ty i)
