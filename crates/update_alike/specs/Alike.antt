-- Two states that differ at most in sound still do after the same update: the sound of each voice is made silent in both, or in both stays. Assumes nothing.
use Rattle.std.specs.Prelude.{◌≡◌, refl, Bool, cond, List, [], ◌∷◌, ℕ, ◌*◌, ◌<◌, length}
use Rattle.std.proofs.Common.{ap, sym, ◌∙◌, arith}
use Rattle.rows.specs.Rows.{part}
use Rattle.rows.specs.Folds.{RowStep, up_to}
use Rattle.params.specs.declared.params.Params.{Params}
use Rattle.params.specs.Sections.{voices_section}
use Rattle.params.specs.Sizes.{revision_of}
use Rattle.state.specs.State.{State, Sized}
use Rattle.voice.specs.Sound.{silent_sound}
use Rattle.sound_rows.specs.SoundRow.{contexts_of, history_of}
use Rattle.voices.specs.Voices.{voices_of}
use Rattle.voices.specs.RowLaws.{left_zero, done_zero}
use Rattle.voices.specs.Own.{renews, contexts_row, history_row, contexts_step, history_step_lem}
use Rattle.updates.specs.Update.{with_resources, voice_rows_in, with_voices, after_voices, changed, updated}
use Rattle.alike.specs.Alike.{Alike}
use Rattle.update_alike.specs.Found.{rows_before}
use Rattle.update_alike.specs.Position.{Position, position, changed_same}

-- row k of a list in which each row is made silent or left
module _ {S A : Type 0} {step : ℕ → S → S} {xs : S → List A} {w : ℕ} {row : ℕ → S → List A} (r : RowStep step xs 0 w row) (n k : ℕ) (h : k < n)
    (new : Bool) (silent : List A) (is : (st : S) → row k st ≡ cond new silent (part w (k * w) (xs st))) where
  row_after : (st : S) → length (xs st) ≡ n * w → part w (k * w) (xs (up_to step n st)) ≡ cond new silent (part w (k * w) (xs st))
  row_after st l = done_zero r n st l k h ∙ is (up_to step k st) ∙ ap (cond new silent) (left_zero r n st l k k (omega arith) h)

  rows_alike : (a b : S) → length (xs a) ≡ n * w → length (xs b) ≡ n * w → part w (k * w) (xs a) ≡ part w (k * w) (xs b)
      → part w (k * w) (xs (up_to step n a)) ≡ part w (k * w) (xs (up_to step n b))
  rows_alike a b la lb e = row_after a la ∙ ap (cond new silent) e ∙ sym (row_after b lb)

changed_alike : (P : ℕ → Type 0) (p : Params) (input : List ℕ) {a b : State} → Sized p a → Sized p b → Alike p P a b
    → Alike p P (changed p input a) (changed p input b)
unfolding changed after_voices with_voices with_resources voice_rows_in voices_of contexts_row history_row
changed_alike P p input {a} {b} za zb e =
    let d = voices_section input in
    let n = p.voices in
    let v = revision_of p in
    let same = changed_same p input a b (λ i. position (e.words i) (e.longs i) (e.floats i)) in
    record {
      words = ap (λ (x : Position). x.words) same;
      longs = ap (λ (x : Position). x.longs) same;
      floats = ap (λ (x : Position). x.floats) same;
      contexts = λ k h q.
          rows_alike (contexts_step v n d) n k h (renews v n d k) (contexts_of silent_sound) (λ st. refl) (rows_before p input a) (rows_before p input b)
          za.contexts zb.contexts (e.contexts k h q);
      history = λ k h q.
          rows_alike (history_step_lem v n d) n k h (renews v n d k) (history_of silent_sound) (λ st. refl) (rows_before p input a) (rows_before p input b)
          za.history zb.history (e.history k h q);
    }

pub updated_alike : (P : ℕ → Type 0) (p : Params) (input : List ℕ) {a b : State} → Sized p a → Sized p b → Alike p P a b
    → Alike p P (updated p input a) (updated p input b)
unfolding updated
updated_alike P p [] za zb e = e
updated_alike P p (x ∷ xs) za zb e = changed_alike P p (x ∷ xs) za zb e
